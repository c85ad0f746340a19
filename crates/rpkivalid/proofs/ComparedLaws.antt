-- What another validator lists, and why payloads are theirs alone.
use Rattle.std.proofs.Common.{◌≡◌, ◌==◌, ℕ, Bool, true, false, List, [], ◌∷◌, Vec, length, sym, subst, ◌∙◌, arith}
use borrow.Author.Tests.{eqb-true}
use Rattle.std.specs.Prelude.{Option, Some, None, Result, Ok, IfOk, IfSome}
use Rattle.std.specs.declared.alloc.Global.{Global}
use Rattle.rpki.specs.PublicKey.{KeyParts}
use Rattle.rpki_payloads.specs.declared.vrp.Vrp.{Vrp}
use Rattle.rpki_payloads.specs.Listed.{AreListedIn}
use Rattle.rpki_validation.specs.Basis.{Basis}
use Rattle.rpkivalid.specs.declared.question.Question.TheVariants.{Alone}
use Rattle.rpkivalid.specs.Compared.{AreListedAt, IsWhyFor}
use Rattle.rpkivalid.specs.Explained.{IsTold}
use Rattle.rpkivalid.specs.Locators.{Holds}
use Rattle.rpkivalid.specs.Request.{Asked}

-- what is read lists them
pub listed-at : {E : Type 0} (holds : Holds) (path octets : List ℕ) (r : Result (Option (List ℕ)) E)
    (found : Option (List ℕ)) (vrps : List Vrp) → IfSome holds (λ files. IfOk r (λ o. o ≡ files path)) → r ≡ Ok found
    → found ≡ Some octets → AreListedIn octets vrps → AreListedAt holds path vrps
listed-at None path octets r found vrps is ok some h = tt
listed-at {E} (Some files) path octets r found vrps is ok some h =
    let same : found ≡ files path =
    subst (λ (x : Result (Option (List ℕ)) E). IfOk x (λ o. o ≡ files path)) ok is in
    (octets, sym same ∙ some, h)

module _ (basis : KeyParts → Basis) (holds : Holds) (a : Asked) (alone : Vec Vrp Global) where
  pub why-none : (items : List Vrp) (text : List ℕ) → (length items == 0) ≡ true → text ≡ []
      → IsWhyFor basis holds a alone items text
  why-none [] text none e = e
  why-none (v ∷ vs) text none e = absurd (omega (arith, eqb-true (length (v ∷ vs)) 0 none))

  pub why-told : (items : List Vrp) (text : List ℕ) (anchored : Bool) → (length items == 0) ≡ false
      → IsTold basis holds a (Alone alone) text anchored → IsWhyFor basis holds a alone items text
  why-told [] text anchored some h = absurd (let k : true ≡ false = some in cc)
  why-told (v ∷ vs) text anchored some h = (anchored, h)

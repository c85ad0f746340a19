-- What is found, compared with what another validator lists.
use Rattle.std.specs.Prelude.{◌≡◌, ◌++◌, ℕ, Bool, List, [], ◌∷◌, Vec, Some, IfSome}
use Rattle.std.specs.declared.alloc.Global.{Global}
use Rattle.rpki.specs.PublicKey.{KeyParts}
use Rattle.rpki_payloads.specs.declared.vrp.Vrp.{Vrp}
use Rattle.rpki_payloads.specs.Alone.{alone_text, are_same, only_in}
use Rattle.rpki_payloads.specs.Listed.{AreListedIn}
use Rattle.rpki_payloads.specs.Payloads.{AreUnited}
use Rattle.rpki_validation.specs.Basis.{Basis}
use Rattle.rpkivalid.specs.declared.question.Question.TheVariants.{Alone}
use Rattle.rpkivalid.specs.Explained.{IsTold}
use Rattle.rpkivalid.specs.Locators.{Holds}
use Rattle.rpkivalid.specs.Request.{Asked}
use Rattle.rpkivalid.specs.Shown.{IsShown, ShownParts}

-- the file lists these payloads
abbrev pub AreListedAt : Holds → List ℕ → List Vrp → Type 0
AreListedAt holds path vrps =
    IfSome holds (λ files. (octets : List ℕ) × (files path ≡ Some octets) × AreListedIn octets vrps)

-- the payloads under the locators that are asked for, with the local exceptions, each once, in order; what is told of
-- what is found; and whether each locator has a trust anchor
pub record AreOurs (basis : KeyParts → Basis) (holds : Holds) (a : Asked) (vrps : List Vrp) (lines : List ℕ)
    (anchored : Bool) : Type 0 where
  pub shown : ShownParts
  pub shows : IsShown basis holds a shown
  pub united : AreUnited shown.payloads vrps
  pub lines_are : lines ≡ shown.lines
  pub anchored_is : anchored ≡ shown.all

-- what attestations that are rejected say of payloads that are there alone; nothing where there are none
abbrev pub IsWhyFor : (KeyParts → Basis) → Holds → Asked → Vec Vrp Global → List Vrp → List ℕ → Type 0
IsWhyFor basis holds a alone [] text = text ≡ []
IsWhyFor basis holds a alone (v ∷ vs) text = (anchored : Bool) × IsTold basis holds a (Alone alone) text anchored

abbrev pub IsWhy : (KeyParts → Basis) → Holds → Asked → Vec Vrp Global → List ℕ → Type 0
IsWhy basis holds a alone text = IsWhyFor basis holds a alone alone.items text

-- Exactly the payloads that are here alone, and those that the file alone has; and what attestations that are rejected
-- say of the latter. And what is told of what is found, whether each locator has a trust anchor, and whether neither
-- has any alone.
pub record IsComparison (basis : KeyParts → Basis) (holds : Holds) (a : Asked) (file text lines : List ℕ)
    (anchored same : Bool) : Type 0 where
  pub theirs : List Vrp
  pub lists : AreListedAt holds file theirs
  pub ours : List Vrp
  pub ours_are : AreOurs basis holds a ours lines anchored
  pub alone : Vec Vrp Global
  pub alone_are : alone.items ≡ only_in theirs ours
  pub why : List ℕ
  pub says : IsWhy basis holds a alone why
  pub text_is : text ≡ alone_text ours theirs ++ why
  pub same_is : same ≡ are_same ours theirs

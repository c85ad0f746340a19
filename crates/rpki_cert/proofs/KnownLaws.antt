-- Extensions by their identifiers, and what their octets say.
use Rattle.std.proofs.Common.{◌≡◌, ◌≢◌, ℕ, Bool, false, List, Option, Some, None, Result, Ok, Err, refl, sym, ap, subst}
use Rattle.std.proofs.Common.{◌∙◌}
use Rattle.rpki_der.specs.declared.error.DecodeError.{DecodeError}
use Rattle.rpki_der.specs.declared.error.DecodeError.TheVariants.{OutOfMemory}
use Rattle.std.specs.Prelude.{IsErr, IsErrAnd, IfOk, IfErr, MatchResult}
use Rattle.rpki_der.proofs.ReadingLaws.{UnlessMemory-weaker, UnlessMemory-from}
use Rattle.rpki.specs.declared.repository.error.ValidationError.{ValidationError}
use Rattle.rpki.specs.declared.repository.error.ValidationError.TheVariants.{Decoding, Inspection, Verification}
use Rattle.rpki_der.specs.Reading.{AnyFault, SpellsNothing, UnlessMemory, IsWholeFault}
use Rattle.rpki_der.proofs.InsideLaws.{unless-memory}
use Rattle.rpki_der.proofs.FirstFaultLaws.{whole-no-memory}
use Rattle.rpki.specs.ExtensionValue.{ExtensionParts}
use Rattle.rpki_cert.specs.Known.{Says, SaysOnly, SaysNone, IsFoundWrong, UnlessNoMemory}
use Rattle.rpki_cert.specs.Access.{SaysUri}

one-of : (x y : ExtensionParts) → ◌≡◌ {A = Option ExtensionParts} (Some x) (Some y) → x ≡ y
one-of x y e = cc

none-of : (x : ExtensionParts) → ◌≡◌ {A = Option ExtensionParts} (Some x) None → ⊥
none-of x e = cc

module _ {V : Type 0} (critical : Bool) (G : V → List ℕ → Type 0) (found : Option ExtensionParts) where
  -- nothing is found
  pub only-none : found ≡ None → SaysOnly critical G found None
  only-none none = (none, only) where
    only : (w : Option V) → Says critical G found w → w ≡ None
    only None h = refl
    only (Some w) (y, two, same, k) = absurd (none-of y (sym two ∙ none))

  -- it is as critical as it has to be, and its octets are this value
  pub only-value : (x : ExtensionParts) (v : V) → (found ≡ Some x) × (x.critical ≡ critical)
      → G v x.content × ((w : V) → G w x.content → w ≡ v) → SaysOnly critical G found (Some v)
  only-value x v (one, same) g = ((x, one, same, g.0), only) where
    only : (w : Option V) → Says critical G found w → w ≡ Some v
    only None h = absurd (none-of x (sym one ∙ h))
    only (Some w) (y, two, other, k) = ap (λ (u : V). Some u)
        (g.1 w (subst (λ (z : ExtensionParts). G w z.content) (one-of y x (sym two ∙ one)) k))

  -- it is, and its octets are no value
  pub no-value : (x : ExtensionParts) → (found ≡ Some x) × (x.critical ≡ critical) → SpellsNothing G x.content
      → SaysNone critical G found
  no-value x (one, same) none None h = none-of x (sym one ∙ h)
  no-value x (one, same) none (Some v) (y, two, other, k) =
      none v (subst (λ (z : ExtensionParts). G v z.content) (one-of y x (sym two ∙ one)) k)

  -- it is, and a reader that takes no memory says which error its octets have
  pub read-wrong : (K : List ℕ → DecodeError → Type 0) (x : ExtensionParts) (e : DecodeError)
      → (found ≡ Some x) × (x.critical ≡ critical) → (K x.content OutOfMemory → ⊥)
      → UnlessMemory e (SpellsNothing G x.content) × IsWholeFault G K x.content e
      → IsFoundWrong critical G (IsWholeFault G K) found (Decoding e)
  read-wrong K x e is never h = (
    no-value x is (unless-memory e (whole-no-memory G K x.content e never h.1) h.0),
    (
      x,
      is.0,
      is.1,
      record { other = whole-no-memory G K x.content e never h.1; kind = h.1 },
    ),
  )

  -- the same of a reader in place
  pub given-wrong : (x : ExtensionParts) (e : DecodeError) → (found ≡ Some x) × (x.critical ≡ critical)
      → SpellsNothing G x.content → e ≢ OutOfMemory
      → IsFoundWrong critical G AnyFault found (Decoding e)
  given-wrong x e is none other = (no-value x is none, (x, is.0, is.1, record { other = other; kind = tt }))

-- ---- an error that isn't allocation failure, or is

pub unless-from : (e : ValidationError) {P : Type 0} → P → UnlessNoMemory e P
unless-from (Decoding e) p = UnlessMemory-from e p
unless-from (Inspection e) p = p
unless-from (Verification e) p = p

pub unless-weaker : (e : ValidationError) {P Q : Type 0} → (P → Q) → UnlessNoMemory e P → UnlessNoMemory e Q
unless-weaker (Decoding e) f h = UnlessMemory-weaker e f h
unless-weaker (Inspection e) f h = f h
unless-weaker (Verification e) f h = f h

-- a function that ends by a `?`
pub tried-unless : {X : Type 0} (P : X → Type 0) (Q : Type 0) (F : ValidationError → Type 0)
    (x : Result X ValidationError) → IsErr x × IsErrAnd x F → Q
    → MatchResult x P (λ e. UnlessNoMemory e Q)
tried-unless P Q F (Ok x) h q = absurd h.1
tried-unless P Q F (Err e) h q = unless-from e q

-- a URI that was found, kept: allocation may fail
pub kept-uri : (G : Option (List ℕ) → List ℕ → Type 0) (found : Option ExtensionParts) (text : Option (List ℕ))
    (r : Result (Option (List ℕ)) ValidationError) → SaysUri G found text
    → IfOk r (λ o. o ≡ text) → IfErr r (λ e. e ≡ Decoding OutOfMemory)
    → MatchResult r (SaysUri G found) (λ e. UnlessNoMemory e (SaysNone {V = Option (List ℕ)} false G found))
kept-uri G found text (Ok u) h is none = subst (SaysUri G found) (sym is) h
kept-uri G found text (Err e) h none is = subst
    (λ (d : ValidationError). UnlessNoMemory d (SaysNone {V = Option (List ℕ)} false G found)) (sym is) tt

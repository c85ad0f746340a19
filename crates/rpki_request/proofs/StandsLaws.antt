-- What stands for a value.
use Rattle.std.proofs.Common.{◌≡◌, ℕ, Bool, List, Option, None, Some, subst, Result, Ok, Err}
use Rattle.std.specs.Prelude.{IfOk}
use Rattle.rpki_der.specs.Prelude.{SpellsFor}
use Rattle.rpki.specs.ExtensionValue.{ExtensionParts}
use Rattle.rpki_cert.specs.Cert.{find}
use Rattle.rpki_cert.specs.Known.{Says, HasExtension}
use Rattle.rpki_request.specs.Request.{StandsIn}

-- what stands for the one value of the octets stands for the octets
pub stands-through : {X V O : Type 0} (view : X → V) (R : V → O → Type 0) (G : O → List ℕ → Type 0) (s : List ℕ) (o : O)
    → G o s → ((w : O) → G w s → w ≡ o) → (x : Option X) → StandsIn view R o x → StandsIn view (SpellsFor G R) s x
stands-through {O = O} view R G s o spelled only None none =
    λ v h. none v (subst (λ (y : O). R v y) (only h.value h.spelled) h.stands)
stands-through {O = O} view R G s o spelled only (Some x) h = (
  record { value = o; spelled = spelled; stands = h.0 },
  λ w k. h.1 w (subst (λ (y : O). R w y) (only k.value k.spelled) k.stands),
)

-- ---- of an extension that was found

-- this is said of it
pub found-says : {V : Type 0} (critical : Bool) (G : V → List ℕ → Type 0) (v : V) (found : Option ExtensionParts)
    (x : ExtensionParts) → found ≡ Some x → Says critical G found (Some v) → (x.critical ≡ critical) × G v x.content
found-says critical G v found x e h =
    let same : h.0 ≡ x = cc in (
      subst (λ (y : ExtensionParts). y.critical ≡ critical) same h.2,
      subst (λ (y : ExtensionParts). G v y.content) same
          h.3,
    )

-- what stands for the contents of the extension that was found stands for the list
pub stands-found : {X V E : Type 0} (view : X → V) (id : List ℕ) (critical : Bool) (G : V → List ℕ → Type 0)
    (xs : List ExtensionParts) (x : ExtensionParts) → find id xs ≡ Some x → x.critical ≡ critical
    → (r : Result (Option X) E) → IfOk r (λ o. StandsIn view G x.content o)
    → IfOk r (λ o. StandsIn view (λ v ys. HasExtension id critical G ys (Some v)) xs o)
stands-found view id critical G xs x e c (Ok None) none =
    λ v h. none v (found-says critical G v (find id xs) x e h).1
stands-found view id critical G xs x e c (Ok (Some y)) h = (
  (x, e, c, h.0),
  λ w k. h.1 w (found-says critical G w (find id xs) x e k).1,
)
stands-found view id critical G xs x e c (Err a) h = h

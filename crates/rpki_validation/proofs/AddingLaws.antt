-- What files say is added, file after file; and what octets say under a list.
use Rattle.std.proofs.Common.{◌≡◌, ◌⊎◌, ◌++◌, ◌+◌, inl, inr, ℕ, List, [], ◌∷◌, length, subst, sym, ap, refl}
use Rattle.std.proofs.Common.{arith}
use Rattle.std.proofs.Common.{codes}
use Rattle.std.specs.List.{Contains}
use Rattle.std.proofs.lemmas.List.Elements.{Contains-append_left, Contains-append_right, Contains-append_cases}
use Rattle.std.proofs.lemmas.List.Elements.{Contains-push, Contains-push_cases}
use Rattle.jiff.specs.Types.{DateTime}
use Rattle.rpki.specs.Checkers.{Models}
use Rattle.rpki_cert.specs.declared.profile.Profile.TheVariants.{Ca, Router}
use Rattle.rpki_contents.specs.Aspa.{AspaParts}
use Rattle.rpki_contents.specs.ListedFile.{ListedFile}
use Rattle.rpki_contents.specs.declared.route_origin.RouteOrigin.{RouteOrigin}
use Rattle.rpki_objects.specs.TypedObject.{TypedParts}
use Rattle.rpki_valid.specs.CrlIssued.{InForce}
use Rattle.rpki_valid.specs.Verified.{Authority, Holder}
use Rattle.rpki_validation.specs.declared.reason.Reason.{Reason}
use Rattle.rpki_validation.specs.declared.stop.Stop.{Stop}
use Rattle.rpki_validation.specs.declared.stop.Stop.TheVariants.{Rejected, OutOfMemory}
use Rattle.rpki_validation.specs.Adding.{AddsFile, AddsFiles, Found, IsSaidAmong, IsSaidBy, MayIssue, SaysOriginHere}
use Rattle.rpki_validation.specs.Adding.{AreProvidersHere, IsCertHere, UnlessMemory}
use Rattle.rpki_validation.specs.Basis.{holder_of, holders}
use Rattle.rpki_validation.specs.Finding.{IsNone, IsSole, StopsAt}
use Rattle.rpki_validation.specs.Sisters.{AreSistersBelow, IsSister}
use Rattle.rpki_validation.specs.Taking.{Adds}

-- ---- steps

-- nothing is found, or allocation failed
pub stops-none : {V : Type 0} (P : V → Type 0) (K : Reason → Type 0) (A : Type 0) (s : Stop) → (IsNone P → A)
    → StopsAt P K s → UnlessMemory A s
stops-none P K A (Rejected reason) f h = f h.0
stops-none P K A OutOfMemory f h = tt

-- ---- lists

-- of all that is to be added, the list has what isn't left
pub record IsAdded {V : Type 0} (Left All : V → Type 0) (old now : List V) : Type 0 where
  pub all : (v : V) → All v → Contains now v ⊎ Left v
  pub left : (v : V) → Left v → All v
  pub only : (v : V) → Contains now v → Contains old v ⊎ All v
  pub kept : (v : V) → Contains old v → Contains now v

-- of the rest, the one is here, the other comes later
pub record IsSplit {V : Type 0} (Left Here Later : V → Type 0) : Type 0 where
  pub cases : (v : V) → Left v → Here v ⊎ Later v
  pub here : (v : V) → Here v → Left v
  pub later : (v : V) → Later v → Left v

module _ {V : Type 0} where
  -- the one thing that P is true of
  pub adds-sole : (P : V → Type 0) (x : V) → IsSole P x → (xs : List V) → Adds P xs (xs ++ x ∷ [])
  adds-sole P x h xs v = (λ k. forth (Contains-push_cases xs x v k), back) where
    forth : Contains xs v ⊎ (x ≡ v) → Contains xs v ⊎ P v
    forth (inl k) = inl k
    forth (inr e) = inr (subst P e h.holds)

    back : Contains xs v ⊎ P v → Contains (xs ++ x ∷ []) v
    back (inl k) = Contains-append_left xs (x ∷ []) v k
    back (inr k) = subst (λ (y : V). Contains (xs ++ x ∷ []) y) (sym (h.sole v k)) (Contains-push xs x)

  -- all of a list
  pub adds-list : (P : V → Type 0) (xs ys : List V) → ((v : V) → Contains ys v → P v)
      → ((v : V) → P v → Contains ys v) → Adds P xs (xs ++ ys)
  adds-list P xs ys to from v = (λ k. forth (Contains-append_cases xs ys v k), back) where
    forth : Contains xs v ⊎ Contains ys v → Contains xs v ⊎ P v
    forth (inl k) = inl k
    forth (inr k) = inr (to v k)

    back : Contains xs v ⊎ P v → Contains (xs ++ ys) v
    back (inl k) = Contains-append_left xs ys v k
    back (inr k) = Contains-append_right xs ys v (from v k)

  pub added-start : (All : V → Type 0) (xs : List V) → IsAdded All All xs xs
  added-start All xs = record {
    all = λ v h. inr h;
    left = λ v h. h;
    only = λ v h. inl h;
    kept = λ v h. h;
  }

  module _ (Left Here Later All : V → Type 0) (old now : List V) (before : IsAdded Left All old now)
      (split : IsSplit Left Here Later) (then : List V) (step : Adds Here now then) where
    all-then : (v : V) → Contains now v ⊎ Left v → Contains then v ⊎ Later v
    all-then v (inl h) = inl ((step v).1 (inl h))
    all-then v (inr h) = left-then (split.cases v h) where
      left-then : Here v ⊎ Later v → Contains then v ⊎ Later v
      left-then (inl k) = inl ((step v).1 (inr k))
      left-then (inr k) = inr k

    only-then : (v : V) → Contains now v ⊎ Here v → Contains old v ⊎ All v
    only-then v (inl h) = before.only v h
    only-then v (inr h) = inr (before.left v (split.here v h))

    pub added-step : IsAdded Later All old then
    added-step = record {
      all = λ v h. all-then v (before.all v h);
      left = λ v h. before.left v (split.later v h);
      only = λ v h. only-then v ((step v).0 h);
      kept = λ v h. (step v).1 (inl (before.kept v h));
    }

  pub added-end : (Left All : V → Type 0) (old now : List V) → IsNone Left → IsAdded Left All old now → Adds All old now
  added-end Left All old now none h v = (h.only v, back) where
    there : Contains now v ⊎ Left v → Contains now v
    there (inl k) = k
    there (inr k) = absurd (none v k)

    back : Contains old v ⊎ All v → Contains now v
    back (inl k) = h.kept v k
    back (inr k) = there (h.all v k)

-- ---- the authorities below

pub holders-push : {X : Type 0} (level : List (Authority X)) (a : Authority X)
    → holders (level ++ a ∷ []) ≡ holders level ++ holder_of a ∷ []
holders-push [] a = refl
holders-push (b ∷ level) a = ap (λ (l : List Holder). holder_of b ∷ l) (holders-push level a)

module _ {X : Type 0} (issuer : Authority X) (at : DateTime) where
  abbrev Below : Authority X → Type 0
  Below = IsSister issuer.terms issuer.provider at (issuer.depth + 1)

  pub sisters-none : (level : List (Authority X)) → AreSistersBelow issuer at level level
  sisters-none level a h = inl h

  pub sisters-then : (old now then : List (Authority X)) → AreSistersBelow issuer at old now
      → AreSistersBelow issuer at now then → AreSistersBelow issuer at old then
  sisters-then old now then h k a c = first (k a c) where
    first : Contains now a ⊎ Below a → Contains old a ⊎ Below a
    first (inl m) = h a m
    first (inr m) = inr m

  -- of an authority that is added
  pub sisters-one : (old new : List (Authority X)) (b : Authority X)
      → ((a : Authority X) → Contains new a → Contains old a ⊎ (b ≡ a)) → Below b → AreSistersBelow issuer at old new
  sisters-one old new b only below a c = by (only a c) where
    by : Contains old a ⊎ (b ≡ a) → Contains old a ⊎ Below a
    by (inl h) = inl h
    by (inr e) = inr (subst Below e below)

-- ---- files

split-files : {V : Type 0} (end : List ℕ) (P : V → List ℕ → Type 0) (file : ListedFile) (following : List ListedFile)
    (one : List ℕ) (later : List (List ℕ))
    → IsSplit (λ v. IsSaidAmong end (P v) (file ∷ following) (one ∷ later)) (λ v. IsSaidBy end (P v) file one)
    (λ v. IsSaidAmong end (P v) following later)
split-files end P file following one later = record { cases = λ v h. h; here = λ v h. inl h; later = λ v h. inr h }

no-file : (end : List ℕ) (P : List ℕ → Type 0) (rest : List ListedFile) (more : List (List ℕ)) → length rest ≡ 0
    → IsSaidAmong end P rest more → ⊥
no-file end P [] more short h = h
no-file end P (file ∷ files) more short h = absurd (omega (arith, short))

no-octets : (end : List ℕ) (P : List ℕ → Type 0) (rest : List ListedFile) (more : List (List ℕ)) → length more ≡ 0
    → IsSaidAmong end P rest more → ⊥
no-octets end P [] more short h = h
no-octets end P (file ∷ files) [] short h = h
no-octets end P (file ∷ files) (o ∷ os) short h = absurd (omega (arith, short))

module _ {X : Type 0} (models : Models X) (c : InForce X) where
  abbrev Origin : RouteOrigin → List ℕ → Type 0
  Origin = SaysOriginHere models c

  abbrev Providers : TypedParts AspaParts → List ℕ → Type 0
  Providers = AreProvidersHere models c

  abbrev RouterCert : Holder → List ℕ → Type 0
  RouterCert = IsCertHere models c Router

  abbrev CaCert : Holder → List ℕ → Type 0
  CaCert = IsCertHere models c Ca

  -- of what files say, what the rest say is still to be added
  pub record AreLeft (files rest : List ListedFile) (octets more : List (List ℕ)) (old now : Found) : Type 0 where
    pub origins : IsAdded (λ v. IsSaidAmong (codes ".roa") (Origin v) rest more)
        (λ v. IsSaidAmong (codes ".roa") (Origin v) files octets) old.origins now.origins
    pub providers : IsAdded (λ x. IsSaidAmong (codes ".asa") (Providers x) rest more)
        (λ x. IsSaidAmong (codes ".asa") (Providers x) files octets) old.providers now.providers
    pub routers : IsAdded (λ x. IsSaidAmong (codes ".cer") (RouterCert x) rest more)
        (λ x. IsSaidAmong (codes ".cer") (RouterCert x) files octets) old.routers now.routers
    pub below : MayIssue models c → IsAdded (λ x. IsSaidAmong (codes ".cer") (CaCert x) rest more)
        (λ x. IsSaidAmong (codes ".cer") (CaCert x) files octets) old.below now.below

  module _ (files : List ListedFile) (octets : List (List ℕ)) (old : Found) where
    pub files-start : AreLeft files files octets octets old old
    files-start = record {
      origins = added-start _ old.origins;
      providers = added-start _ old.providers;
      routers = added-start _ old.routers;
      below = λ may. added-start _ old.below;
    }

    module _ (rest : List ListedFile) (more : List (List ℕ)) (now : Found)
        (before : AreLeft files rest octets more old now) where
      pub files-step : (file : ListedFile) (following : List ListedFile) (one : List ℕ) (later : List (List ℕ))
          (then : Found) → rest ≡ file ∷ following → more ≡ one ∷ later
          → AddsFile models c file one now then → AreLeft files following octets later old then
      files-step file following one later then r m step =
          step-at (subst (λ (q : List ListedFile). AreLeft files q octets (one ∷ later) old now) r
          (subst (λ (q : List (List ℕ)). AreLeft files rest octets q old now) m before)) where
            step-at : AreLeft files (file ∷ following) octets (one ∷ later) old now
                → AreLeft files following octets later old then
            step-at h = record {
              origins = added-step _ _ _ _ _ _ h.origins (split-files (codes ".roa") Origin file following one later) _
                  step.origins;
              providers = added-step _ _ _ _ _ _ h.providers
                  (split-files (codes ".asa") Providers file following one later) _ step.providers;
              routers = added-step _ _ _ _ _ _ h.routers
                  (split-files (codes ".cer") RouterCert file following one later) _ step.routers;
              below = λ may. added-step _ _ _ _ _ _ (h.below may)
                  (split-files (codes ".cer") CaCert file following one later) _ (step.below may);
            }

      none-left : ((end : List ℕ) (P : List ℕ → Type 0) → IsSaidAmong end P rest more → ⊥)
          → AddsFiles models c files octets old now
      none-left none = record {
        origins = added-end _ _ _ _ (λ v. none (codes ".roa") (Origin v)) before.origins;
        providers = added-end _ _ _ _ (λ x. none (codes ".asa") (Providers x)) before.providers;
        routers = added-end _ _ _ _ (λ x. none (codes ".cer") (RouterCert x)) before.routers;
        below = λ may. added-end _ _ _ _ (λ x. none (codes ".cer") (CaCert x)) (before.below may);
      }

      -- no file remains
      pub files-end : length rest ≡ 0 → AddsFiles models c files octets old now
      files-end short = none-left (λ end P. no-file end P rest more short)

      -- no octets are
      pub octets-end : length more ≡ 0 → AddsFiles models c files octets old now
      octets-end short = none-left (λ end P. no-octets end P rest more short)

-- How long payloads hold: those of files, of an authority, of several, and of a walk.
use Rattle.std.proofs.Common.{◌≡◌, ◌⊎◌, ◌++◌, inl, inr, ℕ, List, [], ◌∷◌, ap, codes, map, refl}
use Rattle.std.proofs.Common.{Option, Result}
use Rattle.std.proofs.Common.{subst, sym}
use Rattle.std.specs.List.{Contains}
use Rattle.std.proofs.lemmas.List.Elements.{Contains-append_cases}
use Rattle.jiff.specs.Types.{DateTime}
use Rattle.rpki_time.specs.Validity.{Period}
use Rattle.rpki.specs.Checkers.{Models}
use Rattle.rpki_contents.specs.declared.route_origin.RouteOrigin.{RouteOrigin}
use Rattle.rpki_contents.specs.ListedFile.{ListedFile}
use Rattle.rpki_objects.specs.TypedObject.{TypedParts}
use Rattle.rpki_contents.specs.Aspa.{AspaParts}
use Rattle.rpki_valid.specs.declared.staleness.Staleness.TheVariants.{Refused}
use Rattle.rpki_valid.specs.CrlIssued.{InForce, in_force}
use Rattle.rpki_valid.specs.Verified.{Authority, Holder}
use Rattle.rpki_validation.specs.declared.outcome.Outcome.{Outcome}
use Rattle.rpki_validation.specs.declared.payload.Payload.{Payload}
use Rattle.rpki_validation.specs.Basis.{Basis, basis_of}
use Rattle.rpki_validation.specs.Finding.{IsSole}
use Rattle.rpki_validation.specs.Held.{AddsHeldOf}
use Rattle.rpki_validation.specs.Held.{AddsHeld, AddsHeldFiles, IsSaidByFile}
use Rattle.rpki_validation.specs.Held.{IsSaidByOne, IsSaidOf, SaysBy}
use Rattle.rpki_validation.specs.Holding.{SaysOriginBy, SaysProvidersBy, SaysRouterBy}
use Rattle.rpki_validation.specs.Holding.{in_period, values}
use Rattle.rpki_validation.specs.Noting.{AddsOnly}
use Rattle.rpki_validation.specs.Point.{AreOctetsOf, HoldsAtMoment}
use Rattle.rpki_validation.specs.Publication.{PublicationParts}
use Rattle.rpki_validation.specs.Rejecting.{AddsBelow}
use Rattle.rpki_validation.specs.Snapshot.{Published}
use Rattle.rpki_validation.specs.declared.stop.Stop.{Stop}
use Rattle.rpki_validation.specs.Adding.{WhereMemory}
use Rattle.rpki_validation.proofs.HereLaws.{where-always}
use Rattle.rpki_validation.proofs.MetLaws.{cons-cases, head-in, none-in, tail-in}
use Rattle.rpki_validation.proofs.NotingLaws.{AddsUpTo, adds-map, adds-nothing, adds-start, adds-step}
use Rattle.rpki_validation.proofs.RejectedLaws.{Basis', Holder', Publishes, There, pair-out}

-- ---- payloads in one period

module _ {T : Type 0} (period : Period) where
  pub values-map : (ys : List T) → values (map (in_period period) ys) ≡ ys
  values-map [] = refl
  values-map (y ∷ ys) = ap (λ (l : List T). y ∷ l) (values-map ys)

  pub values-push : (xs : List (Payload T)) (ys : List T)
      → values (xs ++ map (in_period period) ys) ≡ values xs ++ ys
  values-push [] ys = values-map ys
  values-push (x ∷ xs) ys = ap (λ (l : List T). x.value ∷ l) (values-push xs ys)

  abbrev IsMapped : List T → Payload T → Type 0
  IsMapped ys v = Contains ys v.value × (v.period ≡ period)

  mapped-next : (y : T) (ys : List T) (v : Payload T)
      → (Contains (map (in_period period) ys) v → IsMapped ys v)
      → (in_period period y ≡ v) ⊎ Contains (map (in_period period) ys) v → IsMapped (y ∷ ys) v
  mapped-next y ys v later (inl e) = (
    subst (λ (q : T). Contains (y ∷ ys) q) (ap (λ (q : Payload T). q.value) e) (head-in y ys),
    sym (ap (λ (q : Payload T). q.period) e),
  )
  mapped-next y ys v later (inr m) = let k = later m in (tail-in y ys v.value k.0, k.1)

  mapped : (ys : List T) (v : Payload T) → Contains (map (in_period period) ys) v → IsMapped ys v
  mapped [] v h = absurd (none-in v h)
  mapped (y ∷ ys) v h =
      mapped-next y ys v (mapped ys v) (cons-cases (in_period period y) (map (in_period period) ys) v h)

  -- what is added is of the list, in the period
  pub adds-mapped : (P : Payload T → Type 0) (xs : List (Payload T)) (ys : List T)
      → ((v : Payload T) → Contains ys v.value → v.period ≡ period → P v)
      → AddsOnly P xs (xs ++ map (in_period period) ys)
  adds-mapped P xs ys f v h = by (Contains-append_cases xs (map (in_period period) ys) v h) where
    by : Contains xs v ⊎ Contains (map (in_period period) ys) v → Contains xs v ⊎ P v
    by (inl k) = inl k
    by (inr k) = let m = mapped ys v k in inr (f v m.0 m.1)

-- ---- files, in sequence

module _ {X : Type 0} (models : Models X) (c : InForce X)
    (files : List ListedFile) (octets : List (List ℕ)) where
  abbrev UpTo : {T : Type 0} → List ℕ → SaysBy T → List ListedFile → List (List ℕ) → List (Payload T)
      → List (Payload T) → Type 0
  UpTo end Says rest more = AddsUpTo (IsSaidByFile models c end Says) files rest octets more

  pub record HeldUpTo (rest : List ListedFile) (more : List (List ℕ)) (old now : Outcome) : Type 0 where
    pub origins : UpTo (codes ".roa") SaysOriginBy rest more old.origins.items now.origins.items
    pub providers : UpTo (codes ".asa") SaysProvidersBy rest more old.providers.items now.providers.items
    pub routers : UpTo (codes ".cer") SaysRouterBy rest more old.routers.items now.routers.items

  pub held-start : (o : Outcome) → HeldUpTo files octets o o
  held-start o = record {
    origins = adds-start _ files octets o.origins.items;
    providers = adds-start _ files octets o.providers.items;
    routers = adds-start _ files octets o.routers.items;
  }

  pub held-end : (rest : List ListedFile) (more : List (List ℕ)) (old now : Outcome) → HeldUpTo rest more old now
      → AddsHeldFiles models c files octets old now
  held-end rest more old now h =
      record { origins = h.origins.each; providers = h.providers.each; routers = h.routers.each }

  module _ (file : ListedFile) (rest following : List ListedFile) (one : List ℕ) (more later : List (List ℕ))
      (r : rest ≡ file ∷ following) (m : more ≡ one ∷ later) where
    here : (old now : Outcome) → HeldUpTo rest more old now → HeldUpTo (file ∷ following) (one ∷ later) old now
    here old now before =
        subst (λ (q : List ListedFile). HeldUpTo q (one ∷ later) old now) r
        (subst (λ (q : List (List ℕ)). HeldUpTo rest q old now) m before)

    pub held-step : (old now then : Outcome) → HeldUpTo rest more old now
        → AddsHeld (IsSaidByFile models c (codes ".roa") SaysOriginBy file one)
        (IsSaidByFile models c (codes ".asa") SaysProvidersBy file one)
        (IsSaidByFile models c (codes ".cer") SaysRouterBy file one) now then
        → HeldUpTo following later old then
    held-step old now then before h =
        let b = here old now before in
        record {
          origins = adds-step _ files octets old.origins.items file following one later now.origins.items b.origins
              then.origins.items h.origins;
          providers = adds-step _ files octets old.providers.items file following one later now.providers.items
              b.providers then.providers.items h.providers;
          routers = adds-step _ files octets old.routers.items file following one later now.routers.items b.routers
              then.routers.items h.routers;
        }

-- ---- the point of an authority

module _ {X : Type 0} (models : Models X) (published : Published)
    (issuer : Authority X) (at : DateTime) (p : PublicationParts)
    (sole : IsSole (Publishes models published issuer at) p)
    (holds : HoldsAtMoment (Basis' models published issuer at)
    (Holder' models published issuer at) p)
    (os : List (List ℕ))
    (are : AreOctetsOf published (models.sha256_of issuer.provider) p.folder p.manifest.content.files os) where
  abbrev C : InForce X
  C = in_force issuer p.list Refused at

  abbrev Own : Basis
  Own = basis_of models issuer at

  said-for : {T : Type 0} (end : List ℕ) (Says : SaysBy T) (v : Payload T)
      → IsSaidByOne models C end Says p.manifest.content.files os v
      → IsSaidOf published Own end Says issuer v
  said-for end Says v h =
      let k = pair-out published (models.sha256_of issuer.provider) p.folder _ p.manifest.content.files os are h in
      record {
        point = p;
        published_there = There models published issuer at p sole holds os are;
        octets = k.octets;
        file = record { file = k.file; listed = k.listed; ends = k.is.0; stands = k.stands };
        cert = k.is.1.0;
        says = k.is.1.1;
        period = k.is.1.2;
      }

  said-all : (old new : Outcome) → AddsHeldFiles models C p.manifest.content.files os old new
      → AddsHeld (IsSaidOf published Own (codes ".roa") SaysOriginBy issuer)
      (IsSaidOf published Own (codes ".asa") SaysProvidersBy issuer)
      (IsSaidOf published Own (codes ".cer") SaysRouterBy issuer) old new
  said-all old new h = record {
    origins = adds-map _ _ old.origins.items new.origins.items (said-for (codes ".roa") SaysOriginBy) h.origins;
    providers = adds-map _ _ old.providers.items new.providers.items (said-for (codes ".asa") SaysProvidersBy)
        h.providers;
    routers = adds-map _ _ old.routers.items new.routers.items (said-for (codes ".cer") SaysRouterBy) h.routers;
  }

  pub files-held : (c : InForce X) → c ≡ in_force issuer p.list Refused at → (old new : Outcome)
      → AddsHeldFiles models c p.manifest.content.files os old new
      → AddsHeld (IsSaidOf published Own (codes ".roa") SaysOriginBy issuer)
      (IsSaidOf published Own (codes ".asa") SaysProvidersBy issuer)
      (IsSaidOf published Own (codes ".cer") SaysRouterBy issuer) old new
  files-held c e old new h =
      said-all old new (subst (λ (q : InForce X). AddsHeldFiles models q p.manifest.content.files os old
      new) e h)

-- nothing is added
pub held-nothing : {P : Payload RouteOrigin → Type 0} {Q : Payload (TypedParts AspaParts) → Type 0}
    {R : Payload Holder → Type 0} (o : Outcome) → AddsHeld P Q R o o
held-nothing {P} {Q} {R} o = record {
  origins = adds-nothing P o.origins.items;
  providers = adds-nothing Q o.providers.items;
  routers = adds-nothing R o.routers.items;
}

-- nothing is added, of the files of an authority, nor is what is below it
module _ {X R : Type 0} (models : Models X) (known : Option Published)
    (issuer : Authority X) (at : DateTime) (r : Result R Stop) where
  pub held-never : (o : Outcome) → WhereMemory r (AddsHeldOf models known issuer at o o)
  held-never o =
      where-always (AddsHeldOf models known issuer at o o) r (λ published e. held-nothing o)

  pub below-never : (xs : List (Authority X))
      → WhereMemory r (AddsBelow models known issuer at xs xs)
  below-never xs =
      where-always (AddsBelow models known issuer at xs xs) r (λ published e. adds-nothing _ xs)

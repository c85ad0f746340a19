-- What is reached from a locator is an authority: a path of authorities leads up to a trust anchor.
use Rattle.std.proofs.Common.{◌≤◌, ◌⊎◌, inl, inr, ℕ, zero, suc, List, Some, arith, subst, sym}
use Rattle.rpki_cert.specs.declared.profile.Profile.TheVariants.{Ca}
use Rattle.rpki_locator.specs.declared.anchor_uri.AnchorUri.{AnchorUri}
use Rattle.rpki_valid.specs.declared.staleness.Staleness.TheVariants.{Refused}
use Rattle.rpki_valid.specs.Verified.{Holder, IsLink, IsRoot, IsAuthorityAt}
use Rattle.rpki_valid.specs.Verified.IsAuthorityAt.{Root, Issued}
use Rattle.rpki_validation.specs.Basis.{Basis}
use Rattle.rpki_validation.specs.Levels.Reached.{First, Next}
use Rattle.rpki_validation.specs.Counts.{Counts, CountsAt, Taken}
use Rattle.rpki_validation.specs.Named.{IsNamed}
use Rattle.rpki_validation.specs.Reached.{IsFirstAnchor, IsBelow, IsReached}
use Rattle.rpki_validation.specs.Reached.IsFirstAnchor.{Here, Later}
use Rattle.rpki_validation.specs.Snapshot.{Published}

module _ (published : Published) (basis : Basis) where
  first-is-root : (uris : List AnchorUri) (x : Holder) → IsFirstAnchor published basis uris x
      → IsRoot basis.terms basis.by basis.at x
  first-is-root _ _ (Here uri uris x h) = h.anchor.root
  first-is-root _ _ (Later uri uris x none h) = first-is-root uris x h

  -- the list of a point is a list of its authority that counts at the moment
  pub below-is-link : (issuer x : Holder) → IsBelow published basis issuer x
      → IsLink Ca basis.terms.strictness.names (Some Refused) basis.by basis.at issuer x
  below-is-link issuer x h = record {
    profiled = h.cert.valid.profiled;
    issued = h.cert.valid.path.issued;
    unrevoked = (h.point.list, h.published_there.valid.list.list, h.cert.valid.path.unrevoked);
    resources = h.cert.valid.path.resources;
  }

  pub reached-is-authority : (uris : List AnchorUri) (n : ℕ) (x : Holder) → n ≤ basis.terms.deepest
      → IsReached published basis uris n x → IsAuthorityAt basis.terms (Some Refused) basis.by basis.at n x
  reached-is-authority uris _ _ few (First x h) = Root x (first-is-root uris x h)
  reached-is-authority uris _ _ few (Next n issuer x r h) =
      Issued n (suc n) issuer x (reached-is-authority uris n issuer (omega (arith, few)) r) (omega arith) few
      (below-is-link issuer x h)

  -- what is named is reached by as many steps
  pub named-reached : (uris : List AnchorUri) (n : ℕ) (x : Holder) → IsNamed published basis uris n x
      → IsReached published basis uris n x
  named-reached uris _ _ (First x h) = First x h
  named-reached uris _ _ (Next n above x r h) = Next n above x (named-reached uris n above r) h.below

  taken-reached : (uris : List AnchorUri) (r n : ℕ) (x : Holder) → Taken published basis uris r n x
      → IsReached published basis uris n x
  taken-reached uris zero n x h = absurd h
  taken-reached uris (suc r) n x (inl h) = taken-reached uris r n x h
  taken-reached uris (suc r) n x (inr h) =
      subst (λ (k : ℕ). IsReached published basis uris k x) (sym h.holds.deeper)
      (Next h.holds.steps h.holds.above x (by (λ k. taken-reached uris r h.holds.steps h.holds.above k) h.holds.counts)
      h.holds.below)
    where
      by : (Taken published basis uris r h.holds.steps h.holds.above
          → IsReached published basis uris h.holds.steps h.holds.above)
          → IsNamed published basis uris h.holds.steps h.holds.above
          ⊎ Taken published basis uris r h.holds.steps h.holds.above
          → IsReached published basis uris h.holds.steps h.holds.above
      by fewer (inl k) = named-reached uris h.holds.steps h.holds.above k
      by fewer (inr k) = fewer k

  -- and so is what counts
  pub counted-reached : (uris : List AnchorUri) (n : ℕ) (x : Holder) → CountsAt published basis uris n x
      → IsReached published basis uris n x
  counted-reached uris n x (inl h) = named-reached uris n x h
  counted-reached uris n x (inr (r, h)) = taken-reached uris r n x h

  pub counts-is-authority : (uris : List AnchorUri) (x : Holder) → Counts published basis uris x
      → (n : ℕ) × IsAuthorityAt basis.terms (Some Refused) basis.by basis.at n x
  counts-is-authority uris x h =
      let r = counted-reached uris h.steps x h.counted in
      (h.steps, reached-is-authority uris h.steps x h.few r)

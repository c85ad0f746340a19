use Rattle.std.proofs.Common.{◌∙◌, true, List, ap, refl, subst, sym}
use Rattle.std.specs.Prelude.{Some}
use Rattle.std.specs.List.{Contains, flat_map}
use Rattle.rpki_contents.specs.Aspa.{AspaParts}
use Rattle.rpki_contents.specs.declared.route_origin.RouteOrigin.{RouteOrigin}
use Rattle.rpki_objects.specs.TypedObject.{TypedParts}
use Rattle.rpki_payloads.specs.RouterKey.{key_cmp}
use Rattle.rpki_payloads.specs.Sets.{IsSetOf}
use Rattle.rpki_payloads.specs.Vap.{pair_cmp, pairs_of}
use Rattle.rpki_payloads.specs.Vrp.{AreOrigins}
use Rattle.rpki_valid.specs.Verified.{Holder}
use Rattle.rpki_validation.specs.declared.payload.Payload.{Payload}
use Rattle.rpki_validation.specs.Holding.{values}
use Rattle.rpkivalid.specs.declared.walked.Walk.TheVariants.{Found, NoAnchor}
use Rattle.rpkivalid.specs.Counted.{tally_of}
use Rattle.rpkivalid.specs.Ends.{AreEnds}
use Rattle.rpkivalid.specs.Found.{basis_with, router_keys}
use Rattle.rpkivalid.specs.LocatorsView.{named_of}
use Rattle.rpkivalid.proofs.FoundLaws.{flat-values, found-valid, found-none}
use Rattle.rpkivalid.proofs.found.found_under.Goals as goal

pub returns-in_ok-payloads-in-Ok-clause-found : goal.returns-in_ok-payloads-in-Ok-clause-found
returns-in_ok-payloads-in-Ok-clause-found g c =
    let payloads = c.in_ok-payloads-in-Ok.payloads in
    let told = c.in_ok-payloads-in-Ok.ensures in
    let named = told.name ∙ c.as_str-in-Ok.ensures.value ∙ sym c.as_str.ensures.value in
    found-valid (g.S.Sources.holds c.args.sources.now) c.args.folder.now
    (basis_with g.P.Provider c.args.provider.now c.args.strictness c.args.at c.args.depth)
    (named_of c.args.named.now) payloads _ _ c.as_str.ensures.value c.as_slice-uris.ensures.value named
    c.in-Ok.outcome.origins.items (values c.in-Ok.outcome.providers.items) (values c.in-Ok.outcome.routers.items)
    (subst (λ (o : List (Payload RouteOrigin)). AreOrigins (values o) payloads.vrps) c.as_slice-in-Ok.ensures.value
    told.vrps)
    (subst (λ (o : List (Payload RouteOrigin)). AreEnds o payloads.timed) c.as_slice-in-Ok.ensures.value told.timed)
    (subst (λ w. IsSetOf pair_cmp (Contains w) payloads.pairs)
    (flat-values (λ x. pairs_of x.content) c.in-Ok.outcome.providers.items)
    (subst (λ (o : List (Payload (TypedParts AspaParts))). IsSetOf pair_cmp (Contains (flat_map (λ p.
    pairs_of p.value.content) o)) payloads.pairs) c.as_slice-in-Ok-2.ensures.value told.pairs))
    (subst (λ w. IsSetOf key_cmp (Contains w) payloads.keys)
    (flat-values (router_keys (g.P.Provider.sha1_of c.args.provider.now)) c.in-Ok.outcome.routers.items)
    (subst (λ (o : List (Payload Holder)). IsSetOf key_cmp (Contains (flat_map (λ p. router_keys
    (g.P.Provider.sha1_of c.args.provider.now) p.value) o)) payloads.keys) c.as_slice-in-Ok-3.ensures.value told.keys))
    c.in-Ok.outcome.rejections.items
    (λ published k. (c.in-Ok.ensures published k).origins)
    (λ published k. (c.in-Ok.ensures published k).origins_hold)
    (λ published k. (c.in-Ok.ensures published k).providers)
    (λ published k. (c.in-Ok.ensures published k).routers)
    (λ published k. let v = c.in-Ok.ensures published k in (v.anchor, v.first))
    (λ published k. (c.in-Ok.ensures published k).rejections)
    (λ published k. (c.in-Ok.ensures published k).rejected)
    (told.tally ∙ ap Some (c.tally_of.ensures ∙ ap (tally_of true) c.as_slice-in-Ok-4.ensures.value))

pub returns-in_ok-payloads-in-Err-Rejected-clause-found : goal.returns-in_ok-payloads-in-Err-Rejected-clause-found
returns-in_ok-payloads-in-Err-Rejected-clause-found g c =
    let payloads = c.in_ok-payloads-in-Err-Rejected.payloads in
    let told = c.in_ok-payloads-in-Err-Rejected.ensures in
    let named = told.name ∙ c.as_str-in-Err-Rejected-2.ensures.value ∙ sym c.as_str.ensures.value in
    found-none (g.S.Sources.holds c.args.sources.now) c.args.folder.now
    (basis_with g.P.Provider c.args.provider.now c.args.strictness c.args.at c.args.depth)
    (named_of c.args.named.now) payloads _ _ c.as_str.ensures.value c.as_slice-uris.ensures.value named told.vrps
    told.timed told.pairs told.keys
    (λ published k. let h = rw c.in-Err-Rejected.field-0-is at c.in-Err-Rejected.ensures published k in h.0)
    (told.tally ∙ ap Some c.tally_of-in-Err-Rejected.ensures)

pub returns-in_ok-payloads-in-Ok-clause-told : goal.returns-in_ok-payloads-in-Ok-clause-told
returns-in_ok-payloads-in-Ok-clause-told g c = record {
  walk = Found c.in-Ok.outcome;
  walk_is = rw (c.as_str.ensures.value, c.as_slice-uris.ensures.value) at c.in-Ok.ensures;
  lines_are = rw (c.as_slice.ensures.value, c.new-report.ensures.items)
      at c.in_ok-push_rejections-in-Ok.ensures;
  anchored_is = refl;
}

pub returns-in_ok-payloads-in-Err-Rejected-clause-told : goal.returns-in_ok-payloads-in-Err-Rejected-clause-told
returns-in_ok-payloads-in-Err-Rejected-clause-told g c = record {
  walk = NoAnchor c.in-Err-Rejected.reason;
  walk_is = λ published k.
      let h = rw c.in-Err-Rejected.field-0-is at c.in-Err-Rejected.ensures in
      (rw (c.as_str.ensures.value, c.as_slice-uris.ensures.value) at h) published k;
  lines_are = rw (c.as_str-in-Err-Rejected.ensures.value, c.new-report.ensures.items)
      at c.in_ok-push_missing-in-Err-Rejected.ensures;
  anchored_is = refl;
}

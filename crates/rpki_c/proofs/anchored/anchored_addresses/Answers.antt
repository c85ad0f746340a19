use Rattle.std.proofs.Common.{inl, inr, sym, subst}
use Rattle.rpki_resources.specs.declared.ip_view.IpResourcesView.{IpResourcesView}
use Rattle.rpki_resources.specs.Kept.{AreIpResourcesOf}
use Rattle.rpki_cert.specs.ResourceExtensions.{addresses_of}
use Rattle.rpki_c.proofs.CertificateLaws.{listed}
use Rattle.rpki_c.proofs.ResourceLaws.{addresses-kept}
use Rattle.rpki_c.proofs.anchored.anchored_addresses.Goals as goal

pub returns-in-Err-anchored-clause-err : goal.returns-in-Err-anchored-clause-err
returns-in-Err-anchored-clause-err c = λ s x h.
    let says = (c.in-Ok.ensures x.tbs.extensions (listed h)).0 in
    let (v, k) = addresses-kept (addresses_of x.tbs.extensions) c.in-Ok.said says in
    let kept = subst (λ (w : IpResourcesView). AreIpResourcesOf v w) (sym c.claimed_addresses-claim.ensures) k in
    inr (
      v,
      record { said = c.in-Ok.said; says = says; claimed = k },
      inl (c.in-Err-anchored.ensures.err v.v4 kept.0),
    )

pub returns-in-Ok-anchored-2-clause-ok : goal.returns-in-Ok-anchored-2-clause-ok
returns-in-Ok-anchored-2-clause-ok c = λ s x h.
    let says = (c.in-Ok.ensures x.tbs.extensions (listed h)).0 in
    let (v, k) = addresses-kept (addresses_of x.tbs.extensions) c.in-Ok.said says in
    let kept = subst (λ (w : IpResourcesView). AreIpResourcesOf v w) (sym c.claimed_addresses-claim.ensures) k in
    record {
      claim = v;
      claimed = record { said = c.in-Ok.said; says = says; claimed = k };
      in_v4 = c.in-Ok-anchored.ensures.ok v.v4 kept.0;
      in_v6 = c.in-Ok-anchored-2.ensures.ok v.v6 kept.1;
    }

pub returns-in-Err-anchored-2-clause-err : goal.returns-in-Err-anchored-2-clause-err
returns-in-Err-anchored-2-clause-err c = λ s x h.
    let says = (c.in-Ok.ensures x.tbs.extensions (listed h)).0 in
    let (v, k) = addresses-kept (addresses_of x.tbs.extensions) c.in-Ok.said says in
    let kept = subst (λ (w : IpResourcesView). AreIpResourcesOf v w) (sym c.claimed_addresses-claim.ensures) k in
    inr (
      v,
      record { said = c.in-Ok.said; says = says; claimed = k },
      inr (c.in-Err-anchored-2.ensures.err v.v6 kept.1),
    )

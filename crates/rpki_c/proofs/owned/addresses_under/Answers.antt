use Rattle.std.proofs.Common.{inl, inr, refl, sym, subst}
use Rattle.rpki_resources.specs.declared.ip_view.IpResourcesView.{IpResourcesView}
use Rattle.rpki_resources.specs.Kept.{AreIpResourcesOf}
use Rattle.rpki_cert.specs.ResourceExtensions.{addresses_of}
use Rattle.rpki_c.proofs.CertificateLaws.{listed}
use Rattle.rpki_c.proofs.ResourceLaws.{addresses-kept}
use Rattle.rpki_c.proofs.owned.addresses_under.Goals as goal

pub returns-in-Ok-own_addresses : goal.returns-in-Ok-own_addresses
returns-in-Ok-own_addresses c = λ s x h.
    let says = (c.in-Ok.ensures x.tbs.extensions (listed h)).0 in
    let (v, k) = addresses-kept (addresses_of x.tbs.extensions) c.in-Ok.said says in
    record {
      policy = c.in-Some.policy;
      by = c.in-Some.is;
      claim = v;
      claimed = record { said = c.in-Ok.said; says = says; claimed = k };
      owned = c.in-Ok-own_addresses.ensures.ok v
          (subst (λ (w : IpResourcesView). AreIpResourcesOf v w) (sym c.claimed_addresses.ensures) k);
    }

pub returns-in-Err-own_addresses : goal.returns-in-Err-own_addresses
returns-in-Err-own_addresses c = λ s x h.
    let says = (c.in-Ok.ensures x.tbs.extensions (listed h)).0 in
    let (v, k) = addresses-kept (addresses_of x.tbs.extensions) c.in-Ok.said says in
    let wrong = c.in-Err-own_addresses.ensures.err v
    (subst (λ (w : IpResourcesView). AreIpResourcesOf v w) (sym c.claimed_addresses.ensures) k) in
    inr (inr (inr (
      c.in-Some.policy,
      v,
      c.in-Some.is,
      record { said = c.in-Ok.said; says = says; claimed = k },
      wrong,
    )))

pub returns-in-Err : goal.returns-in-Err
returns-in-Err c = λ s x h. inr (inr (inl ((c.in-Err.ensures x.tbs.extensions (listed h)).0, refl)))

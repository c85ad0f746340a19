use Rattle.std.proofs.Common.{inl, inr, refl, sym, subst}
use Rattle.rpki_resources.specs.declared.ip_view.IpResourcesView.{IpResourcesView}
use Rattle.rpki_resources.specs.Kept.{AreIpResourcesOf}
use Rattle.rpki_cert.specs.ResourceExtensions.{addresses_of}
use Rattle.rpki_c.proofs.CertificateLaws.{listed}
use Rattle.rpki_c.proofs.ResourceLaws.{addresses-kept}
use Rattle.rpki_c.proofs.certificate_resources.rpki_ip_settle.Goals as goal

pub returns-in-Ok-ip_resources : goal.returns-in-Ok-ip_resources
returns-in-Ok-ip_resources c =
    let (x, cert, has) = c.in-Ok.ensures.ok in
    let all = listed cert in
    let says = (c.in-Ok-ip_resources.ensures x.tbs.extensions all).0 in
    let (v, k) = addresses-kept (addresses_of x.tbs.extensions) c.in-Ok-ip_resources.said says in
    let settled = c.settle_addresses.ensures v
    (subst (λ (w : IpResourcesView). AreIpResourcesOf v w) (sym c.claimed_addresses.ensures) k) in
    inr (inr (
      x,
      c.in-Ok.read.1,
      has,
      inr (v, record { said = c.in-Ok-ip_resources.said; says = says; claimed = k }, settled),
    ))

pub returns-in-Err-ip_resources : goal.returns-in-Err-ip_resources
returns-in-Err-ip_resources c =
    let (x, cert, has) = c.in-Ok.ensures.ok in
    let all = listed cert in
    let none = (c.in-Err-ip_resources.ensures x.tbs.extensions all).0 in
    inr (inr (x, c.in-Ok.read.1, has, inl (refl, none, record { array = refl; size = refl })))

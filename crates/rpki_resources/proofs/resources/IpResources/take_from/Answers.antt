use Rattle.rpki_der.proofs.ChoiceLaws.{such-read}
use Rattle.rpki_der.proofs.TriedLaws.{tried-refused}
use Rattle.rpki_resources.specs.Extension.{ip_resources}
use Rattle.rpki_resources.specs.Kept.{AreIpResourcesOf, kept_ip}
use Rattle.rpki_resources.proofs.KeptLaws.{ip_of, ip-only, not-read}
use Rattle.rpki_resources.proofs.NoMemoryLaws.{ip-no-memory}
use Rattle.rpki_resources.proofs.resources.IpResources.take_from.Goals as goal

pub returns-in_err-view : goal.returns-in_err-view
returns-in_err-view c =
    tried-refused (λ v. v) kept_ip.spells kept_ip.fault _ _ _ _ c.from_residual.ensures
    (not-read AreIpResourcesOf ip_resources (ip-no-memory _) c.in_err-view.ensures)

pub returns : goal.returns
returns c =
    let v4 = c.in_ok-v4.ensures.kept in
    let v6 = c.in_ok-v6.ensures.kept in
    such-read AreIpResourcesOf ip_resources (ip_of c.in_ok-v4.v4 c.in_ok-v6.v6) c.in_ok-view.ensures (v4.0, v6.0)
    (ip-only c.in_ok-view.view c.in_ok-v4.v4 c.in_ok-v6.v6 v4 v6)

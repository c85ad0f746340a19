use Rattle.rpki_der.specs.Cursor.{left}
use Rattle.rpki_der.proofs.FirstFaultLaws.{tried-parts}
use Rattle.rpki_resources.specs.Extension.{second_family}
use Rattle.rpki_resources.proofs.FamilyLaws.{no-second, second-v6, second-v4, as-family}
use Rattle.rpki_resources.proofs.ip_reading.take_second.Goals as goal

pub returns-in_err-family : goal.returns-in_err-family
returns-in_err-family c =
    let e = c.in_err-family.field-0.0 in
    tried-parts (λ v. v) second_family.spells second_family.fault _ _ e _ c.from_residual.ensures
    (no-second _ _ e c.in_err-family.ensures)

pub returns-in-Ipv6 : goal.returns-in-Ipv6
returns-in-Ipv6 c = second-v6 _ _ c.in_ok-family.choice
    (as-family _ _ _ _ c.in_ok-family.choice c.in-Ipv6.is c.in_ok-family.ensures)

pub returns-in-Ipv4 : goal.returns-in-Ipv4
returns-in-Ipv4 c = rw c.content.ensures (second-v4 (left c.args.contents.now) _ c.in_ok-family.choice _
    (as-family _ _ _ _ c.in_ok-family.choice c.in-Ipv4.is c.in_ok-family.ensures))

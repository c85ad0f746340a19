use Rattle.std.proofs.Common.{◌≢◌, []}
use Rattle.std.proofs.lemmas.Bool.{iff_false}
use Rattle.rpki_der.specs.Cursor.{left}
use Rattle.rpki_der.proofs.FirstFaultLaws.{tried-parts}
use Rattle.rpki_resources.specs.Extension.{AreFamilies, ip_families}
use Rattle.rpki_resources.proofs.FamilyLaws.{no-families, only-v6, only-v4, second-refused, second-read, as-family}
use Rattle.rpki_resources.proofs.ip_reading.take_families.Goals as goal

pub returns-in_err-family : goal.returns-in_err-family
returns-in_err-family c =
    let e = c.in_err-family.field-0.0 in
    tried-parts (λ x. x) AreFamilies ip_families.fault _ _ e _ c.from_residual.ensures
    (no-families _ _ e c.in_err-family.ensures)

pub returns-in-Ipv6 : goal.returns-in-Ipv6
returns-in-Ipv6 c = only-v6 _ _ c.in_ok-family.first
    (as-family _ _ _ _ c.in_ok-family.first c.in-Ipv6.is c.in_ok-family.ensures)

pub returns-then-is_empty : goal.returns-then-is_empty
returns-then-is_empty c = only-v4 _ _ c.in_ok-family.first
    (as-family _ _ _ _ c.in_ok-family.first c.in-Ipv4.is c.in_ok-family.ensures)
    (c.is_empty.ensures.0 c.if-is_empty.true)

pub returns-in_err-second-in-Ipv4 : goal.returns-in_err-second-in-Ipv4
returns-in_err-second-in-Ipv4 c =
    let e = c.in_err-second-in-Ipv4.field-0.0 in
    let some : left c.take_named.new.cons ≢ [] = iff_false c.is_empty.ensures c.if-is_empty.false in
    tried-parts (λ x. x) AreFamilies ip_families.fault _ _ e _ c.from_residual-in_err-second-in-Ipv4.ensures
    (second-refused _ _ c.in_ok-family.first (as-family _ _ _ _ c.in_ok-family.first c.in-Ipv4.is
    c.in_ok-family.ensures) e some c.in_err-second-in-Ipv4.ensures)

pub returns-in_ok-second-in-Ipv4 : goal.returns-in_ok-second-in-Ipv4
returns-in_ok-second-in-Ipv4 c =
    let some : left c.take_named.new.cons ≢ [] = iff_false c.is_empty.ensures c.if-is_empty.false in
    second-read _ _ c.in_ok-family.first (as-family _ _ _ _ c.in_ok-family.first c.in-Ipv4.is c.in_ok-family.ensures) _
    c.in_ok-second-in-Ipv4.second some c.in_ok-second-in-Ipv4.ensures

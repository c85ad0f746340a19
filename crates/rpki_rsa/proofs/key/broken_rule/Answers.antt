use Rattle.std.proofs.Common.{◌≤◌, ◌^◌, rules}
use Rattle.rpki_der.specs.Prelude.{number_of}
use Rattle.rpki_der.proofs.IntegerLaws.{nine-octets}
use Rattle.rpki_rsa.proofs.key.broken_rule.Goals as goal

pub returns-then-exponent-gt-LIMB_OCTETS : goal.returns-then-exponent-gt-LIMB_OCTETS
returns-then-exponent-gt-LIMB_OCTETS c =
    let exponent = c.exponent-exponent.ensures in
    let large : 2 ^ 64 ≤ number_of c.args.key.now.exponent =
    nine-octets _ exponent.magnitude (rw exponent.octets at c.if-exponent-gt-LIMB_OCTETS.true) in
    search rules

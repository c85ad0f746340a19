use Rattle.std.proofs.Common.{◌<◌, ◌^◌, List, ℕ, length, sym, subst, arith}
use Rattle.rpki.specs.ExtensionValue.{AreShort}
use Rattle.rpki_resources.specs.EncodedResources.{as_identifiers_octets}
use Rattle.rpki_issue.specs.RowNames.{row_parts}
use Rattle.rpki_issue.specs.declared.row.Row.TheVariants.{AutonomousSysIds}
use Rattle.rpki_issue.proofs.RowsLaws.{numbers-legal}
use Rattle.rpki_issue.proofs.listed.push_as.Goals as goal

pub push-requires-clause-all : goal.push-requires-clause-all
push-requires-clause-all c =
    let octets = as_identifiers_octets c.args.asn.now in
    let is = c.in-Some.ensures.octets in
    let small : length octets < 2 ^ 31 =
    subst (λ (w : List ℕ). length w < 2 ^ 31) is (omega (arith, c.encoded_len.ensures, c.if-encoded_len.false)) in
    subst (λ (w : List ℕ). AreShort (row_parts AutonomousSysIds w)) (sym is) (numbers-legal octets small).short

use Rattle.std.proofs.Common.{◌<◌, ◌^◌, ℕ, List, true, length, sym, subst, arith}
use Rattle.rpki_der.specs.Prelude.{sequence, sequence_legal}
use Rattle.rpki_der.specs.ValueListLaws.{around_value}
use Rattle.rpki_der.proofs.EncodeLaws.{tlv_at_most}
use Rattle.rpki_issue.proofs.capture.capture_sequence.Goals as goal

pub from_values-requires : goal.from_values-requires
from_values-requires c =
    let octets = c.in_ok-captured.captured in
    let few : length octets < 2 ^ 32 =
    subst (λ (w : List ℕ). length w < 2 ^ 32) (sym c.in_ok-captured.ensures.ok) (omega arith) in
    let all = tlv_at_most sequence true octets in
    rw c.new.ensures (((c.values.result, c.values.ensures.count), few), omega (arith, few, all))

pub returns-in-Ok-clause-one : goal.returns-in-Ok-clause-one
returns-in-Ok-clause-one c =
    let octets = c.in_ok-captured.captured in
    let few : length octets < 2 ^ 32 =
    subst (λ (w : List ℕ). length w < 2 ^ 32) (sym c.in_ok-captured.ensures.ok) (omega arith) in
    rw (c.in-Ok.ensures, c.new.ensures)
    (around_value sequence true octets sequence_legal few (c.values.result, c.values.ensures.count))

use Rattle.std.proofs.Common.{◌≡◌, ◌<◌, ◌^◌, ℕ, List, true, length, sym, subst, ◌∙◌, arith}
use Rattle.rpki_der.specs.Prelude.{sequence}
use Rattle.rpki_der.proofs.EncodeLaws.{tlv_at_most}
use Rattle.rpki_issue.specs.Tbs.{issued_of, tbs_contents}
use Rattle.rpki_issue.proofs.WrittenTbsLaws.{all-read}
use Rattle.rpki_issue.proofs.written.write_tbs.Goals as goal

pub from_values-requires : goal.from_values-requires
from_values-requires c =
    let octets = c.in_ok-captured.captured in
    let is : octets ≡ c.in_ok-contents.contents.items = c.in_ok-captured.ensures.ok ∙ c.as_slice.ensures.value in
    let few : length octets < 2 ^ 32 =
    subst (λ (w : List ℕ). length w < 2 ^ 32) (sym is) (omega (arith, c.len.ensures, c.if-len.false)) in
    let all = tlv_at_most sequence true octets in
    rw c.new.ensures (((c.values.result, c.values.ensures.count), few), omega (arith, few, all))

pub returns-in-Ok-clause-read : goal.returns-in-Ok-clause-read
returns-in-Ok-clause-read c =
    let x = issued_of c.args.builder.now in
    let all = c.in_ok-contents.ensures in
    let few : length (tbs_contents x c.args.listed.now) < 2 ^ 32 =
    subst (λ (w : List ℕ). length w < 2 ^ 32) all.ok (omega (arith, c.len.ensures, c.if-len.false)) in
    all-read x c.args.listed.now few all.spelled

use Rattle.std.proofs.Common.{◌≡◌, ◌<◌, ◌^◌, ℕ, List, true, length, sym, subst, ◌∙◌, arith}
use Rattle.rpki_der.specs.Prelude.{sequence}
use Rattle.rpki_der.proofs.EncodeLaws.{tlv_at_most}
use Rattle.rpki_crl.specs.Crl.{list_of}
use Rattle.rpki_crl.specs.EncodedCrl.{list_contents}
use Rattle.rpki_issue.proofs.ListLaws.{all-read}
use Rattle.rpki_issue.proofs.crl_written.write_list.Goals as goal

pub from_values-requires : goal.from_values-requires
from_values-requires c =
    let octets = c.in_ok-captured.captured in
    let is : octets ≡ c.in_ok-contents.contents.items = c.in_ok-captured.ensures.ok ∙ c.as_slice.ensures.value in
    let few : length octets < 2 ^ 32 =
    subst (λ (w : List ℕ). length w < 2 ^ 32) (sym is) (omega (arith, c.len.ensures, c.if-len.false)) in
    let all = tlv_at_most sequence true octets in
    rw c.new.ensures (((c.values.result, c.values.ensures.count), few), omega (arith, few, all))

pub returns-in-Ok-clause-read : goal.returns-in-Ok-clause-read
returns-in-Ok-clause-read c =
    let x = list_of c.args.list.now in
    let all = c.in_ok-contents.ensures in
    let few : length (list_contents x) < 2 ^ 32 =
    subst (λ (w : List ℕ). length w < 2 ^ 32) all.ok (omega (arith, c.len.ensures, c.if-len.false)) in
    all-read x few all.known

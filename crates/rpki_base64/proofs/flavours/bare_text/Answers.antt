use Rattle.std.proofs.Common.{ℕ, List, ◌∙◌, drop, ap, sym}
use Rattle.std.proofs.lemmas.List.{nil_from_length}
use Rattle.std.proofs.lemmas.List.Sums.{prefix_len-le-length}
use Rattle.rpki_base64.specs.Base64Text.{is_no_white_space, without_white_space}
use Rattle.rpki_base64.proofs.WhiteSpaceLaws.{goes-on}
use Rattle.rpki_base64.proofs.flavours.bare_text.Goals as goal

pub split_at-requires : goal.split_at-requires
split_at-requires c = rw c.line_len.ensures (prefix_len-le-length is_no_white_space c.lines.rest.now)

pub lines-preserved-in-Some : goal.lines-preserved-in-Some
lines-preserved-in-Some c = rw c.in_ok-extend_from_slice.ensures.items
    (goes-on c.lines.bare.items (without_white_space c.args.text.now) c.lines.rest.now c.split_at.result.0.now
    c.in-Some.next.now c.line_len.result c.lines.invariant c.line_len.ensures c.split_at.ensures.front
    (ap (λ (t : List ℕ). drop 1 t) (sym c.in-Some.ensures.cases.0 ∙ c.split_at.ensures.back)))

pub lines-preserved : goal.lines-preserved
lines-preserved c =
    let none = nil_from_length c.split_at.result.1.now c.in-None.ensures.cases in
    rw c.in_ok-extend_from_slice.ensures.items
    (goes-on c.lines.bare.items (without_white_space c.args.text.now) c.lines.rest.now c.split_at.result.0.now
    c.split_at.result.1.now c.line_len.result c.lines.invariant c.line_len.ensures c.split_at.ensures.front
    (none ∙ ap (λ (t : List ℕ). drop 1 t) (sym none ∙ c.split_at.ensures.back)))

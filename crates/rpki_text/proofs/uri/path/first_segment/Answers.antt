use Rattle.std.proofs.Common.{rules, ◌≡◌, ◌<◌, ◌+◌, length, [], arith}
use Rattle.std.proofs.lemmas.Grind.{common_steps}
use Rattle.std.specs.List.{position_or_len}
use Rattle.rpki_text.specs.Segments.{is_slash}
use Rattle.rpki_text.proofs.SegmentLaws.{segments-cut, segments-all, segments-empty, tail-slice}
use Rattle.rpki_text.proofs.uri.path.first_segment.Goals as goal

pub returns-then-is_empty : goal.returns-then-is_empty
returns-then-is_empty c =
    let e : c.args.path.now ≡ [] = search (rules, common_steps) in rw e segments-empty

pub returns-then-end-path : goal.returns-then-end-path
returns-then-end-path c =
    let some : 0 < length c.args.path.now = grind (arith, common_steps) in
    let h : position_or_len is_slash c.args.path.now ≡ length c.args.path.now = omega arith in
    rw (tail-slice c.slash_at-end.result c.args.path.now, c.if-end-path.true) (segments-all c.args.path.now some h)

pub returns-else-end-path : goal.returns-else-end-path
returns-else-end-path c =
    let h : position_or_len is_slash c.args.path.now < length c.args.path.now = omega arith in
    rw (tail-slice (c.slash_at-end.result + 1) c.args.path.now, c.slash_at-end.ensures.value)
    (segments-cut c.args.path.now h)

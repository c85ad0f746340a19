use Rattle.std.proofs.Common.{arith, subst}
use Rattle.std.proofs.lemmas.Str.Pattern.{split_parts}
use Rattle.rpki_resources.proofs.AsReadLaws.{IsPlain, joined, not-plain}
use Rattle.rpki_resources.proofs.as_read.AsBlockFromStr.from_str.Goals as goal

pub returns-in-Some : goal.returns-in-Some
returns-in-Some c =
    let parts = rw c.in-Some.is at (split_parts 45 c.args.s.now c.split_once.result c.split_once.ensures.cases
    (omega arith)) in
    joined c.args.s.now c.in-Some.low.now c.in-Some.high.now c.range_of.result parts.0 parts.1 c.range_of.ensures

pub returns-in-Err : goal.returns-in-Err
returns-in-Err c =
    let plain = rw c.in-None.is at (split_parts 45 c.args.s.now c.split_once.result c.split_once.ensures.cases
    (omega arith)) in
    (c.in-Err.ensures.value, λ l g s x y is_x is_y. not-plain l g (subst IsPlain s plain))

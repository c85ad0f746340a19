use Rattle.std.proofs.Common.{rules, ◌≡◌, ◌-◌, get_or, take, arith, false, not, refl}
use Rattle.std.specs.List.{suffix_len}
use Rattle.std.proofs.lemmas.List.Sums.{suffix_len-take_no}
use Rattle.rpki_text.specs.Segments.{is_slash}
use Rattle.rpki_text.proofs.SegmentLaws.{is_dir-empty}
use Rattle.rpki_text.proofs.JoinLaws.{closed-at}
use Rattle.rpki_text.proofs.uri.path.after_last_slash.Goals as goal

pub returns-else-text-end-ne47-clause-front : goal.returns-else-text-end-ne47-clause-front
returns-else-text-end-ne47-clause-front c =
    closed-at c.args.text.now c.loop-end.end (omega arith) c.loop-end.invariant.within (search rules)

pub returns-after-loop-end-clause-front : goal.returns-after-loop-end-clause-front
returns-after-loop-end-clause-front c =
    let z : c.loop-end.end ≡ 0 = omega arith in rw z is_dir-empty

pub returns-else-text-end-ne47-clause-value : goal.returns-else-text-end-ne47-clause-value
returns-else-text-end-ne47-clause-value c =
    let stops : not (is_slash (get_or c.args.text.now (c.loop-end.end - 1) 0)) ≡ false = rw c.if-text-end-ne47.false
    refl in
    let none : suffix_len (λ b. not (is_slash b)) (take c.loop-end.end c.args.text.now) ≡ 0 =
    suffix_len-take_no (λ b. not (is_slash b)) c.args.text.now c.loop-end.end 0 c.loop-end-test.true
    c.loop-end.invariant.within stops in
    omega (arith, c.loop-end.invariant.within, c.loop-end.invariant.tail, none)

pub returns-after-loop-end-clause-value : goal.returns-after-loop-end-clause-value
returns-after-loop-end-clause-value c =
    let z : c.loop-end.end ≡ 0 = omega arith in
    let none : suffix_len (λ b. not (is_slash b)) (take c.loop-end.end c.args.text.now) ≡ 0 = rw z refl in
    omega (arith, c.loop-end.invariant.within, c.loop-end.invariant.tail, none)

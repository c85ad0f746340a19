use Rattle.std.proofs.Common.{◌∙◌, ◌++◌, ap, rules, append-nil, sym}
use Rattle.std.specs.Slice.Iter.{chunks_rest}
use Rattle.rpki_issue.specs.Locators.{lines_octets}
use Rattle.rpki_issue.proofs.LocatorLaws.{one-more-line, folded-none}
use Rattle.rpki_issue.proofs.locator_written.put_digits.Goals as goal

pub loop-line-preserved : goal.loop-line-preserved
loop-line-preserved c =
    let line = c.in-Some.line.now in
    let steps = c.in-Some.ensures.steps in
    let size = c.loop-line.invariant.2 in
    let so_far = c.loop-line.invariant.3 in
    let more = one-more-line c.loop-line.text.items line (chunks_rest c.next.new.self)
    (chunks_rest c.loop-line.line-iterator) steps.1.0 (rw size at steps.1.1) steps.1.2 in (
      search rules,
      tt,
      steps.0 ∙ size,
      rw c.in_ok-put_line.ensures (more ∙ so_far),
    )

pub returns : goal.returns
returns c =
    let so_far = c.loop-line.invariant.3 in
    let none = folded-none _ c.in-None.ensures.steps.1.0 in
    sym (append-nil c.loop-line.text.items) ∙ ap (λ ls. c.loop-line.text.items ++ lines_octets ls) (sym none) ∙ so_far

use Rattle.std.proofs.Common.{◌≡◌, ◌+◌, List, ℕ, false, arith, sym, ap, subst, ◌∙◌}
use Rattle.rpkicert.specs.Pem.{begins, from_begin}
use Rattle.rpkicert.proofs.PemLaws.{begin-here, begin-later, begin-nowhere}
use Rattle.rpkicert.proofs.pem.from_begin.Goals as goal

pub returns-then-begins : goal.returns-then-begins
returns-then-begins c =
    let here = begin-here c.after-rest.result.now (sym c.begins.ensures ∙ c.if-begins.true) in
    sym here ∙ ap from_begin c.after-rest.ensures ∙ c.loop-at.invariant

pub loop-at-preserved : goal.loop-at-preserved
loop-at-preserved c =
    let other = sym c.begins.ensures ∙ c.if-begins.false in
    let none = subst (λ (l : List ℕ). begins l ≡ false) c.after-rest.ensures other in
    begin-later c.args.text.now c.loop-at.at (c.loop-at.at + 1) (omega arith) (omega arith) none ∙ c.loop-at.invariant

pub returns : goal.returns
returns c = sym (begin-nowhere c.args.text.now c.loop-at.at c.loop-at-test.false) ∙ c.loop-at.invariant

use Rattle.std.proofs.Common.{◌≡◌, [], take, sym, ap, ◌∙◌, arith, rules}
use Rattle.std.proofs.lemmas.List.{take_all}
use Rattle.std.proofs.lemmas.Grind.{common_steps}
use Rattle.rpki_text.specs.Segments.{segments}
use Rattle.rpki_text.specs.RsyncText.{names_refusal}
use Rattle.rpki_text.proofs.SegmentLaws.{segments-empty}
use Rattle.rpki_text.proofs.OrdinaryLaws.{are_ordinary, ordinary-good, ordinary-more}
use Rattle.rpki_text.proofs.uri.path.are_ordinary.Goals as goal

pub returns-then-is_empty : goal.returns-then-is_empty
returns-then-is_empty c = λ t.
    let none : c.args.path.now ≡ [] = search (rules, common_steps) in
    ap (λ p. names_refusal (segments p)) none ∙ ap names_refusal segments-empty

pub loop-i-preserved : goal.loop-i-preserved
loop-i-preserved c = (
  omega arith,
  rw (c.is_odd.ensures, c.loop-i.invariant.1)
      (sym (ordinary-more 47 c.args.path.now c.loop-i.i c.loop-i.invariant.0 c.loop-i-test.true)),
)

pub returns : goal.returns
returns c = λ t.
    let whole : take c.loop-i.i c.args.path.now ≡ c.args.path.now = take_all c.loop-i.i c.args.path.now (omega arith) in
    ordinary-good c.args.path.now c.requires (ap (are_ordinary 47) (sym whole) ∙ sym c.loop-i.invariant.1 ∙ t)

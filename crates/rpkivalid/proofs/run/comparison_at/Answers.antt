use Rattle.std.proofs.Common.{◌∙◌, ap, rules}
use Rattle.rpkivalid.specs.Run.{status_of}
use Rattle.rpkivalid.specs.Run.IsRunOf.{OfComparison}
use Rattle.rpki_der.proofs.TriedLaws.{tried-error}
use Rattle.rpkivalid.proofs.RunLaws.{uncompared}
use Rattle.rpkivalid.proofs.run.comparison_at.Goals as goal

pub returns-clause-ran : goal.returns-clause-ran
returns-clause-ran g c = OfComparison c.args.file.now c.requires.compare (record {
  at = c.args.at;
  moment = c.requires.moment;
  depth = c.args.depth;
  deep = c.requires.depth;
  anchored = c.in_ok-compared.compared.have_anchors;
  same = c.in_ok-compared.compared.are_same;
  compares = c.in_ok-compared.ensures.compared;
  metrics_are = search rules;
  read = c.is_read.result;
  known = c.is_read.ensures;
  status_is = c.status_of-status.ensures ∙ ap (λ b. status_of b c.is_read.result) c.both-is_right.ensures;
})

pub returns-in_err-compared-clause-denied : goal.returns-in_err-compared-clause-denied
returns-in_err-compared-clause-denied g c =
    tried-error _ _ _ c.from_residual.ensures
    (uncompared (g.S.Sources.holds c.args.host.now) (g.S.Sources.clock c.args.host.now) c.args.request.now
    c.args.file.now _ c.requires.compare c.in_err-compared.ensures.denied)

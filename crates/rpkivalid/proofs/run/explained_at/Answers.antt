use Rattle.std.proofs.Common.{rules}
use Rattle.rpkivalid.specs.Run.IsRunOf.{OfQuestion}
use Rattle.rpki_der.proofs.TriedLaws.{tried-error}
use Rattle.rpkivalid.specs.Denying.{OfFiles}
use Rattle.rpkivalid.proofs.run.explained_at.Goals as goal

pub returns-clause-ran : goal.returns-clause-ran
returns-clause-ran g c = OfQuestion c.requires.compare (record {
  at = c.args.at;
  moment = c.requires.moment;
  depth = c.args.depth;
  deep = c.requires.depth;
  question = c.args.question.now;
  asks = c.requires.question;
  anchored = c.in_ok-explained.explained.have_anchors;
  told = c.in_ok-explained.ensures.told;
  metrics_are = search rules;
  read = c.is_read.result;
  known = c.is_read.ensures;
  status_is = c.status_of-status.ensures;
})

pub returns-in_err-explained-clause-denied : goal.returns-in_err-explained-clause-denied
returns-in_err-explained-clause-denied g c =
    tried-error _ _ _ c.from_residual.ensures (OfFiles c.in_err-explained.ensures.denied)

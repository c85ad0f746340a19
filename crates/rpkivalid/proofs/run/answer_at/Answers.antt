use Rattle.rpkivalid.specs.Run.IsRunOf.{Kept, OfPayloads}
use Rattle.rpkivalid.specs.RunView.{shown_by}
use Rattle.rpki_der.proofs.TriedLaws.{tried-error}
use Rattle.rpkivalid.specs.Denying.{OfFiles}
use Rattle.rpkivalid.proofs.run.answer_at.Goals as goal

pub returns-in_ok-report-in-Ok-clause-ran : goal.returns-in_ok-report-in-Ok-clause-ran
returns-in_ok-report-in-Ok-clause-ran g c = OfPayloads c.requires.compare c.requires.question (record {
  at = c.args.at;
  moment = c.requires.moment;
  depth = c.args.depth;
  deep = c.requires.depth;
  shown = shown_by c.in_ok-shown.shown;
  shows = c.in_ok-shown.ensures.shown;
  some = c.in-Ok.ensures.anchor;
  written = c.in-Ok.ensures.written.text;
  metrics_are = c.in-Ok.ensures.written.metrics;
  report_is = c.in_ok-report-in-Ok.ensures;
  read = c.is_read.result;
  known = c.is_read.ensures;
  status_is = c.status_of-status.ensures;
})

pub returns-in_ok-ran-in-Err-clause-ran : goal.returns-in_ok-ran-in-Err-clause-ran
returns-in_ok-ran-in-Err-clause-ran g c = Kept c.requires.compare c.requires.question (record {
  at = c.args.at;
  moment = c.requires.moment;
  depth = c.args.depth;
  deep = c.requires.depth;
  shown = shown_by c.in_ok-shown.shown;
  shows = c.in_ok-shown.ensures.shown;
  denial = c.in-Err.denial;
  why = c.in-Err.ensures.denied;
  told = c.in_ok-ran-in-Err.ensures;
})

pub returns-in_err-shown-clause-denied : goal.returns-in_err-shown-clause-denied
returns-in_err-shown-clause-denied g c =
    tried-error _ _ _ c.from_residual.ensures (OfFiles c.in_err-shown.ensures.denied)

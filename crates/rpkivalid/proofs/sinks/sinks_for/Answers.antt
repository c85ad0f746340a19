use Rattle.std.proofs.Common.{◌≡◌, ◌∙◌, ap}
use Rattle.std.specs.Prelude.{◌||◌, codes, is_some}
use Rattle.clap.specs.Words.{first_of, found_of}
use Rattle.clap.proofs.WalkLemmas.{first_value-rows}
use Rattle.rpki_cli.specs.Given.{named}
use Rattle.rpkivalid.specs.Request.{is_given}
use Rattle.rpkivalid.specs.RequestView.{rows_in}
use Rattle.rpkivalid.specs.Sinks.{unless_given}
use Rattle.rpkivalid.proofs.ProgramLaws.{sinks-same}
use Rattle.rpkivalid.proofs.sinks.sinks_for.Goals as goal

pub returns : goal.returns
returns c =
    let log : named c.get_str-log.result ≡ first_of (codes "log") (rows_in c.args.matches.now) =
    c.get_str-log.ensures ∙ first_value-rows (found_of c.args.matches.now) (codes "log") in
    sinks-same _ _ _ _ _ _ _ _ c.file_of-output.ensures
    (c.unless_given-metrics.ensures
    ∙ ap (unless_given (named c.args.request.now.explain)) c.unless_given-listed.ensures)
    log
    (c.tells_less-is_quiet.ensures
    ∙ (ap (λ x. x || is_some (named c.get_str-log.result)) c.is_given.ensures
    ∙ ap (λ x. is_given (codes "quiet") (rows_in c.args.matches.now) || is_some x) log))

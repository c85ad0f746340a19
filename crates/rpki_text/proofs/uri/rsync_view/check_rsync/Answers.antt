use Rattle.std.proofs.Common.{drop, sym, ◌∙◌}
use Rattle.std.proofs.lemmas.Result.{err_from_is_err_and}
use Rattle.rpki_text.proofs.UriLaws.{refuses-characters, refuses-path, refuses-nothing, path-passes}
use Rattle.rpki_text.proofs.SegmentLaws.{tail-slice}
use Rattle.rpki_text.proofs.uri.rsync_view.check_rsync.Goals as goal

pub returns-in_err-check_uri_ascii-clause-err : goal.returns-in_err-check_uri_ascii-clause-err
returns-in_err-check_uri_ascii-clause-err c =
    let p = err_from_is_err_and c.from_residual.result c.from_residual.ensures.1 in
    rw (p.1, p.2, c.in_err-check_uri_ascii.ensures.0)
    (refuses-characters c.args.text.now c.in_err-check_uri_ascii.ensures.1)

pub returns-in_err-check_path-clause-err : goal.returns-in_err-check_path-clause-err
returns-in_err-check_path-clause-err c =
    let p = err_from_is_err_and c.from_residual-in_err-check_path.result c.from_residual-in_err-check_path.ensures.1 in
    let refused = rw (tail-slice 8 c.args.text.now) at c.in_err-check_path.ensures in
    rw (p.1, p.2) (refuses-path c.args.text.now _ c.in_ok-check_uri_ascii.ensures
    (sym c.starts_with_ignore_case.ensures ∙ c.if-not-starts_with_ignore_case.false) refused)

pub returns-in-Some-clause-ok : goal.returns-in-Some-clause-ok
returns-in-Some-clause-ok c =
    let passes = rw (tail-slice 8 c.args.text.now) at c.in_ok-check_path.ensures in
    refuses-nothing c.args.text.now c.in_ok-check_uri_ascii.ensures
    (sym c.starts_with_ignore_case.ensures ∙ c.if-not-starts_with_ignore_case.false) passes c.in-Some.ensures.full

pub returns-in-Some-clause-cut : goal.returns-in-Some-clause-cut
returns-in-Some-clause-cut c =
    let passes = rw (tail-slice 8 c.args.text.now) at c.in_ok-check_path.ensures in
    record {
      form = record {
        characters = c.in_ok-check_uri_ascii.ensures;
        scheme = sym c.starts_with_ignore_case.ensures ∙ c.if-not-starts_with_ignore_case.false;
        names = path-passes (drop 8 c.args.text.now) passes;
        full = c.in-Some.ensures.full;
      };
      module_starts = c.in-Some.ensures.starts.0;
      path_starts = c.in-Some.ensures.starts.1;
    }

use Rattle.std.proofs.Common.{sym, ap, ◌∙◌, arith}
use Rattle.std.specs.List.{position_or_len}
use Rattle.std.proofs.lemmas.Result.{err_from_is_err_and}
use Rattle.std.proofs.lemmas.Slice.Eq.{bytes_eq-Decides}
use Rattle.rpki_text.specs.Segments.{is_slash}
use Rattle.rpki_text.proofs.HttpsPartLaws.{https-refuses-characters, https-refuses-scheme, https-refuses-authority}
use Rattle.rpki_text.proofs.HttpsPartLaws.{https-refuses-nothing, authority-long}
use Rattle.rpki_text.proofs.uri.https_view.check_https.Goals as goal

pub returns-in_err-check_uri_ascii-clause-err : goal.returns-in_err-check_uri_ascii-clause-err
returns-in_err-check_uri_ascii-clause-err c =
    let p = err_from_is_err_and c.from_residual.result c.from_residual.ensures.1 in
    rw (p.1, p.2, c.in_err-check_uri_ascii.ensures.0)
    (https-refuses-characters c.args.text.now c.in_err-check_uri_ascii.ensures.1)

pub returns-then-not-starts_with_ignore_case-clause-err : goal.returns-then-not-starts_with_ignore_case-clause-err
returns-then-not-starts_with_ignore_case-clause-err c =
    https-refuses-scheme c.args.text.now c.in_ok-check_uri_ascii.ensures
    (sym c.starts_with_ignore_case.ensures ∙ c.if-not-starts_with_ignore_case.true)

pub returns-then-authority-ge-AUTHORITY_LIMIT-clause-err : goal.returns-then-authority-ge-AUTHORITY_LIMIT-clause-err
returns-then-authority-ge-AUTHORITY_LIMIT-clause-err c =
    https-refuses-authority c.args.text.now c.in_ok-check_uri_ascii.ensures
    (sym c.starts_with_ignore_case.ensures ∙ c.if-not-starts_with_ignore_case.false)
    (let e = c.slash_at-authority.ensures.value ∙ ap (position_or_len is_slash) c.split_at.ensures.back in omega arith)

pub returns-clause-ok : goal.returns-clause-ok
returns-clause-ok c =
    let e = c.slash_at-authority.ensures.value ∙ ap (position_or_len is_slash) c.split_at.ensures.back in
    https-refuses-nothing c.args.text.now (record {
      characters = c.in_ok-check_uri_ascii.ensures;
      scheme = (bytes_eq-Decides _ _).0 (sym c.starts_with_ignore_case.ensures ∙
          c.if-not-starts_with_ignore_case.false);
      short = omega (arith, authority-long c.args.text.now, e);
    })

pub returns-clause-cut : goal.returns-clause-cut
returns-clause-cut c =
    let e = c.slash_at-authority.ensures.value ∙ ap (position_or_len is_slash) c.split_at.ensures.back in
    record {
      passes = https-refuses-nothing c.args.text.now (record {
        characters = c.in_ok-check_uri_ascii.ensures;
        scheme = (bytes_eq-Decides _ _).0
            (sym c.starts_with_ignore_case.ensures ∙ c.if-not-starts_with_ignore_case.false);
        short = omega (arith, authority-long c.args.text.now, e);
      });
      path_starts = omega (arith, authority-long c.args.text.now, e);
    }

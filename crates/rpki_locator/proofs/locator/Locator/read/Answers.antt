use Rattle.std.proofs.Common.{◌∙◌, sym, ap, map}
use Rattle.std.specs.Option.{option_map}
use Rattle.std.proofs.lemmas.Result.{err_from_is_err_and}
use Rattle.rpki_locator.specs.Locator.{uri_text, lines_of}
use Rattle.rpki_locator.proofs.LineLaws.{text-read, no-key}
use Rattle.rpki_locator.proofs.locator.Locator.read.Goals as goal

pub returns-in-Some-2-clause-ok : goal.returns-in-Some-2-clause-ok
returns-in-Some-2-clause-ok c =
    let sections = rw (c.as_slice.ensures.value, c.in_ok-lines.ensures) at c.sections_of-sections.ensures.sections in
    let key = ap (option_map (λ v. v.items)) (sym c.in-Some-2.is) ∙ c.in_ok-octets.ensures in
    let read = text-read (lines_of c.args.text.now) c.sections_of-sections.result (map uri_text c.in_ok-uris.uris.items)
    c.in-Some.field-0-0.now c.in-Some.digits.now c.in-Some-2.octets.items sections
    (sym c.is_empty.ensures ∙ c.if-is_empty.false) c.in_ok-uris.ensures.ok c.in-Some.ensures.cases.0 key in
    (_, c.in-Some-2.octets.items, read, c.in_ok-key-in-Some-2.ensures.ok)

pub returns-in_err-key-in-Some-2-clause-err : goal.returns-in_err-key-in-Some-2-clause-err
returns-in_err-key-in-Some-2-clause-err c =
    let sections = rw (c.as_slice.ensures.value, c.in_ok-lines.ensures) at c.sections_of-sections.ensures.sections in
    let key = ap (option_map (λ v. v.items)) (sym c.in-Some-2.is) ∙ c.in_ok-octets.ensures in
    let read = text-read (lines_of c.args.text.now) c.sections_of-sections.result (map uri_text c.in_ok-uris.uris.items)
    c.in-Some.field-0-0.now c.in-Some.digits.now c.in-Some-2.octets.items sections
    (sym c.is_empty.ensures ∙ c.if-is_empty.false) c.in_ok-uris.ensures.ok c.in-Some.ensures.cases.0 key in
    let from = c.from_residual-in_err-key-in-Some-2 in
    let p = err_from_is_err_and from.result from.ensures.1 in
    rw (p.1, p.2) (no-key c.args.text.now _ read c.in_err-key-in-Some-2.field-0.0 c.in_err-key-in-Some-2.ensures.err)

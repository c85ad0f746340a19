use Rattle.std.proofs.Common.{◌<◌, ◌∙◌, arith, map, sym, ap, length}
use Rattle.std.proofs.Math.ListN.{get_or-map}
use Rattle.std.proofs.lemmas.List.{length-map}
use Rattle.rpki_locator.specs.Locator.{uri_text}
use Rattle.rpki_issue.proofs.LocatorLaws.{one-written, all-written, other-written}
use Rattle.rpki_issue.proofs.locator_written.list_uris.Goals as goal

pub uris-preserved : goal.uris-preserved
uris-preserved c =
    let uris = c.args.uris.now in
    let at = c.uris.at in
    let uri = c.index-uris-at.result in
    let below : at < length (map uri_text uris) = omega (arith, c.uris-test.true, length-map uris uri_text) in
    let this = ap uri_text c.index-uris-at.is ∙ sym (get_or-map uri_text uris at uri) in
    one-written (map uri_text uris) at c.uris.text.items c.put_line.new.text.items (uri_text uri) c.uris.invariant
    below this (sym c.can_locate.ensures ∙ c.if-not-can_locate.false)
    (rw c.as_slice.ensures at c.in_ok-put_line.ensures)

pub returns-then-not-can_locate-clause-err : goal.returns-then-not-can_locate-clause-err
returns-then-not-can_locate-clause-err c =
    let uris = c.args.uris.now in
    let at = c.uris.at in
    let uri = c.index-uris-at.result in
    let below : at < length (map uri_text uris) = omega (arith, c.uris-test.true, length-map uris uri_text) in
    let this = ap uri_text c.index-uris-at.is ∙ sym (get_or-map uri_text uris at uri) in (
      other-written (map uri_text uris) at c.uris.text.items (uri_text uri) c.uris.invariant below this
          (sym c.can_locate.ensures ∙ c.if-not-can_locate.true),
      below,
    )

pub returns-clause-all : goal.returns-clause-all
returns-clause-all c =
    let uris = c.args.uris.now in
    (all-written (map uri_text uris) c.uris.at c.uris.text.items c.uris.invariant
    (omega (arith, c.uris-test.false, length-map uris uri_text))).1
    ∙ length-map uris uri_text

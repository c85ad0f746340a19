use Rattle.std.proofs.Common.{◌<◌, arith, map, ◌∙◌, sym, ap, [], ◌∷◌, length}
use Rattle.std.proofs.Math.ListN.{get_or-map}
use Rattle.std.proofs.lemmas.List.{length-map, map-append}
use Rattle.rpki_locator.specs.Locator.{uri_text, is_anchor_uri}
use Rattle.rpki_locator.proofs.LineLaws.{one-more, all-read, other-uri}
use Rattle.rpki_locator.proofs.locator.uris_of.Goals as goal

pub lines-preserved : goal.lines-preserved
lines-preserved c =
    let lines = c.args.lines.now in
    let at = c.lines.at in
    let read = rw c.in-Some.is at c.in_ok-uri.ensures in
    let same = get_or-map (λ line. line.now) lines at _ in
    let below : at < length (map (λ line. line.now) lines) =
    omega (arith, c.lines-test.true, length-map lines (λ line. line.now)) in
    one-more (map (λ line. line.now) lines) at (map uri_text c.lines.uris.items) (map uri_text c.push.new.self.items)
    (uri_text c.in-Some.uri) c.lines.invariant below (ap is_anchor_uri same ∙ read.0) (read.1 ∙ sym same)
    (ap (map uri_text) c.in-Ok.ensures.items ∙ map-append uri_text c.lines.uris.items (c.in-Some.uri ∷ []))

pub returns-in-None-clause-err : goal.returns-in-None-clause-err
returns-in-None-clause-err c =
    let lines = c.args.lines.now in
    let at = c.lines.at in
    let read = rw c.in-None.is at c.in_ok-uri.ensures in
    let same = get_or-map (λ line. line.now) lines at _ in
    let below : at < length (map (λ line. line.now) lines) =
    omega (arith, c.lines-test.true, length-map lines (λ line. line.now)) in
    other-uri (map (λ line. line.now) lines) at c.args.before (map uri_text c.lines.uris.items) c.lines.invariant below
    (ap is_anchor_uri same ∙ read)

pub returns-clause-ok : goal.returns-clause-ok
returns-clause-ok c =
    all-read (map (λ line. line.now) c.args.lines.now) c.lines.at (map uri_text c.lines.uris.items) c.lines.invariant
    (omega (arith, c.lines-test.false, length-map c.args.lines.now (λ line. line.now)))

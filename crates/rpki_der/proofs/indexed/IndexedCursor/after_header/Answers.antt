use Rattle.std.proofs.Common.{sym, ◌∙◌}
use Rattle.rpki_der.specs.IndexedCursor.{indexed_left}
use Rattle.rpki_der.proofs.CursorLaws.{following-cut, rest-fits}
use Rattle.rpki_der.proofs.IndexReadingLaws.{entry-read}
use Rattle.rpki_der.proofs.TriedLaws.{tried-error}
use Rattle.rpki_der.proofs.indexed.IndexedCursor.after_header.Goals as goal

pub overflow_sub-following : goal.overflow_sub-following
unfolding indexed_left
overflow_sub-following c =
    let self = c.args.self.now in
    let found = c.header-3.inside in
    let h = rw (← c.header-3.view_is) at c.in_ok-header.ensures.ok in
    let a = h.spells in
    (rest-fits self.source.now self.start self.end a.front found.rest.now self.ordered self.inside
    (sym c.rest.ensures ∙ a.parts)).0

pub returns-clause-ok : goal.returns-clause-ok
unfolding indexed_left
returns-clause-ok c =
    let self = c.args.self.now in
    let found = c.header-3.inside in
    let h = rw (← c.header-3.view_is) at c.in_ok-header.ensures.ok in
    let a = h.spells in
    let e = following-cut self.source.now self.start self.end a.front found.rest.now self.ordered self.inside
    (sym c.rest.ensures ∙ a.parts) in
    rw (e, ← c.rest.ensures) h

pub returns-in_err-header-clause-err : goal.returns-in_err-header-clause-err
returns-in_err-header-clause-err c =
    tried-error _ _ _ c.from_residual.ensures (rw (← c.rest.ensures) c.in_err-header.ensures.err)

pub returns-in-Some-clause-ok : goal.returns-in-Some-clause-ok
unfolding indexed_left
returns-in-Some-clause-ok c =
    let self = c.args.self.now in
    let found = c.in-Some.ensures.stands in
    rw (c.header.ensures, c.contents.ensures)
    (entry-read self.source.now c.in-Some.entry self.start self.end found.0 found.1 found.2 self.inside)

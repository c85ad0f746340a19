use Rattle.rpki_der.specs.Cursor.{left}
use Rattle.rpki_der.proofs.TriedLaws.{tried-refused}
use Rattle.rpki_der.proofs.WantedLaws.{formed-found, formed-refusal}
use Rattle.rpki_der.proofs.cursor.Constructed.take_any_contents.Goals as goal

pub returns-in_err-found : goal.returns-in_err-found
returns-in_err-found c =
    tried-refused _ _ _ _ _ _ _ c.from_residual.ensures
    (formed-refusal c.args.tag c.args.constructed (left c.args.self.now) _ c.in_err-found.field-0.0
    c.in_err-found.ensures)

pub returns : goal.returns
returns c =
    let found = c.found.inside in
    formed-found c.args.tag c.args.constructed (left c.args.self.now)
    (found.tag, found.constructed, left found.contents) (left c.take_wanted.new.self)
    (rw (← c.found.view_is) at c.in_ok-found.ensures)

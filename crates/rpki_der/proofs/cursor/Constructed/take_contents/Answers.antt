use Rattle.rpki_der.specs.Cursor.{left}
use Rattle.rpki_der.proofs.WantedLaws.{formed-found}
use Rattle.rpki_der.proofs.cursor.Constructed.take_contents.Goals as goal

pub returns-in-Some : goal.returns-in-Some
returns-in-Some c =
    formed-found c.args.tag c.args.constructed (left c.args.self.now)
    (c.in-Some.field-0-0, c.in-Some.field-0-1, left c.in-Some.contents) (left c.in-Some.after) c.in-Some.ensures

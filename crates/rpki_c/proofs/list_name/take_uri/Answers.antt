use Rattle.rpki_der.specs.Prelude.{left}
use Rattle.rpki_cert.proofs.GeneralNameLaws.{name-refused}
use Rattle.rpki_c.proofs.ListNameLaws.{uri-accepted, other-name, no-name}
use Rattle.rpki_c.proofs.list_name.take_uri.Goals as goal

pub returns-in-Ok-Some : goal.returns-in-Ok-Some
returns-in-Ok-Some c =
    uri-accepted (left c.args.cons.now) _ c.in-Ok-Some.text.now (rw c.in-Ok-Some.field-0-is at c.in-Ok-Some.ensures)

pub returns-in-Ok-None : goal.returns-in-Ok-None
returns-in-Ok-None c =
    other-name (left c.args.cons.now) _ (rw c.in-Ok-None.field-0-is at c.in-Ok-None.ensures)

pub returns-in-Err : goal.returns-in-Err
returns-in-Err c =
    no-name (left c.args.cons.now) (name-refused (left c.args.cons.now) _ c.in-Err.e c.in-Err.ensures)

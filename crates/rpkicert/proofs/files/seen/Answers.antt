use Rattle.rpkicert.specs.RequirementsView.{terms_of}
use Rattle.rpkicert.proofs.SeenLaws.{was-seen, not-seen}
use Rattle.rpkicert.proofs.files.seen.Goals as goal

pub returns-in-Ok : goal.returns-in-Ok
returns-in-Ok g c =
    was-seen _ c.args.check c.args.form (terms_of c.args.terms.now) c.args.name.now c.in-Ok.input.items
    c.seen_input.result c.in-Ok.ensures c.seen_input.ensures

pub returns-in-Err : goal.returns-in-Err
returns-in-Err g c =
    not-seen _ c.args.check c.args.form (terms_of c.args.terms.now) c.args.name.now c.in-Err.fault c.show.result
    c.in-Err.ensures c.show.ensures

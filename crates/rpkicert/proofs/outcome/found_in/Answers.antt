use Rattle.std.proofs.Common.{◌∙◌, ap, refl, sym}
use Rattle.std.specs.Prelude.{Some, None, Err}
use Rattle.rpkicert.specs.Outcome.{form_fault}
use Rattle.rpkicert.specs.OutcomeView.{finding_of}
use Rattle.rpkicert.specs.RequirementsView.{terms_of}
use Rattle.rpkicert.proofs.OutcomeLaws.{by-form}
use Rattle.rpkicert.proofs.outcome.found_in.Goals as goal

pub returns-in-Some : goal.returns-in-Some
returns-in-Some c =
    by-form (terms_of c.args.terms.now) c.args.input.items (Some c.in-Some.fault) (Err c.in-Some.fault)
    (sym c.in-Some.is ∙ c.form_fault.ensures ∙ ap form_fault c.as_slice.ensures.value) refl

pub returns-in-None : goal.returns-in-None
returns-in-None c =
    by-form (terms_of c.args.terms.now) c.args.input.items None (finding_of c.found_formed.result)
    (sym c.in-None.is ∙ c.form_fault.ensures ∙ ap form_fault c.as_slice.ensures.value) c.found_formed.ensures

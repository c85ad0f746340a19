use Rattle.std.proofs.Common.{◌∙◌, true, false, sym}
use Rattle.std.proofs.lemmas.Result.{IfOk-weaker}
use Rattle.rpkicert.specs.OutcomeView.{finding_of}
use Rattle.rpkicert.specs.Output.{IsLocatorSeen, IsOutput}
use Rattle.rpkicert.specs.OutputView.{parts_of}
use Rattle.rpkicert.specs.RequirementsView.{terms_of}
use Rattle.rpkicert.proofs.SeenLaws.{seen-as}
use Rattle.rpkicert.proofs.files.seen_in.Goals as goal

pub returns-then-is_other : goal.returns-then-is_other
returns-then-is_other c =
    let other = c.if-is_other.true in
    let asked = rw c.as_slice.ensures.value at c.is_other.ensures in
    IfOk-weaker c.seen_locator.result
    (λ s. IsLocatorSeen c.args.check c.args.form (terms_of c.args.terms.now) c.args.name.now c.args.input.items
    (parts_of s)) _
    (λ s h. seen-as true c.args.check c.args.form (terms_of c.args.terms.now) c.args.name.now c.args.input.items
    (parts_of s) (sym asked ∙ other) h)
    (rw c.as_slice-then-is_other.ensures.value at c.seen_locator.ensures)

pub returns : goal.returns
returns c =
    let other = c.if-is_other.false in
    let asked = rw c.as_slice.ensures.value at c.is_other.ensures in
    let found = finding_of c.found_in-found.result in
    IfOk-weaker c.show.result
    (λ s. IsOutput c.args.check c.args.form (terms_of c.args.terms.now) c.args.name.now found (parts_of s)) _
    (λ s h. seen-as false c.args.check c.args.form (terms_of c.args.terms.now) c.args.name.now c.args.input.items
    (parts_of s) (sym asked ∙ other) (found, c.found_in-found.ensures, h))
    c.show.ensures

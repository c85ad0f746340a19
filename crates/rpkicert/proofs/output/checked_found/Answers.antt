use Rattle.std.proofs.Common.{◌≡◌, ◌∙◌}
use Rattle.std.specs.Prelude.{is_some}
use Rattle.rpkicert.specs.RequirementsView.{terms_of}
use Rattle.rpkicert.proofs.SeenLaws.{some-mapped}
use Rattle.rpkicert.proofs.output.checked_found.Goals as goal

pub returns-in-None : goal.returns-in-None
returns-in-None c =
    let issued : c.is_some-issued.result ≡ is_some (terms_of c.args.terms.now).issuer =
    c.is_some-issued.ensures ∙ some-mapped _ c.args.terms.now.issuer in
    let listed : c.is_some-listed.result ≡ is_some (terms_of c.args.terms.now).revocations =
    c.is_some-listed.ensures ∙ some-mapped _ c.args.terms.now.revocations in
    rw c.in-None.is
    (rw (c.signature_of-signature.ensures, c.well_text.ensures, issued, listed, c.as_ref-object.ensures)
    at c.checked.ensures)

use Rattle.std.proofs.Common.{◌≡◌, ◌∙◌, refl, subst}
use Rattle.std.specs.Prelude.{is_some}
use Rattle.rpkicert.specs.declared.signature.Signature.{Signature}
use Rattle.rpkicert.specs.Output.{IsTextOf}
use Rattle.rpkicert.specs.Signature.{signature_found}
use Rattle.rpkicert.specs.RequirementsView.{terms_of}
use Rattle.rpkicert.proofs.SeenLaws.{some-mapped}
use Rattle.rpkicert.proofs.output.listed.Goals as goal

pub returns : goal.returns
returns c =
    let terms = terms_of c.args.terms.now in
    let found = c.args.found.now in
    let issued : c.is_some.result ≡ is_some terms.issuer = c.is_some.ensures ∙ some-mapped _ c.args.terms.now.issuer in
    let same : c.in_ok-signature.signature ≡ signature_found (is_some terms.issuer) found.object.value found.fault =
    c.in_ok-signature.ensures ∙ rw (issued, c.as_ref.ensures) refl in (
      c.in_ok-output.output.items,
      subst (λ (s : Signature). IsTextOf c.args.form s c.args.name.now found.octets.items found.object.value
          c.in_ok-output.output.items) same c.in_ok-output.ensures,
      _,
      c.in_ok-told.ensures,
      rw (c.in_ok-faults.ensures, c.status_in.ensures) refl,
    )

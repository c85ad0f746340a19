use Rattle.std.proofs.Common.{◌∙◌, sym}
use Rattle.rpki_x509.proofs.TriedLaws.{tried-fault}
use Rattle.rpki_text.specs.RsyncText.{uri_of}
use Rattle.rpki_objects.specs.TypedObject.{manifest_object}
use Rattle.rpki_validation.proofs.PublicationLaws.{value-found, value-malformed}
use Rattle.rpki_validation.proofs.publication.manifest_at.Goals as goal

pub returns-in_err-manifest-in-Some : goal.returns-in_err-manifest-in-Some
returns-in_err-manifest-in-Some g c = λ published known.
    let stands = sym (c.in_ok-octets.ensures published known) ∙ c.in-Some.is in
    tried-fault _ _ _ _ c.from_residual-in_err-manifest-in-Some.ensures
    (value-malformed published (manifest_object c.args.strict) (uri_of c.args.uri.now) c.in-Some.octets stands _
    c.in_err-manifest-in-Some.ensures)

pub returns-in_ok-manifest-in-Some : goal.returns-in_ok-manifest-in-Some
returns-in_ok-manifest-in-Some g c = λ published known.
    let stands = sym (c.in_ok-octets.ensures published known) ∙ c.in-Some.is in
    value-found published (manifest_object c.args.strict) (uri_of c.args.uri.now) c.in-Some.octets stands _
    c.in_ok-manifest-in-Some.ensures

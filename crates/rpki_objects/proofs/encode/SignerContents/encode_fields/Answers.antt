use Rattle.std.proofs.Common.{false, ap, ◌∙◌}
use Rattle.rpki_der.specs.Prelude.{TagName, tlv}
use Rattle.rpki_attributes.specs.SignedAttributes.{AttributeValues}
use Rattle.rpki_attributes.specs.EncodedAttributes.{attributes_octets}
use Rattle.rpki_objects.specs.EncodedObject.{built_of}
use Rattle.rpki_x509.proofs.WrittenLaws.{appended}
use Rattle.rpki_objects.proofs.ObjectWritingLaws.{parts-few}
use Rattle.rpki_objects.proofs.encode.SignerContents.encode_fields.Goals as goal

pub returns-clause-octets : goal.returns-clause-octets
returns-clause-octets c =
    let x = built_of c.self.inside.parts.now in
    rw (← c.self.view_is)
    (appended c.encode_version.ensures.octets
    (appended (c.encode_as-identifier.ensures.encoded ∙ ap (λ (t : TagName). tlv t false x.signer) c.new.ensures)
    (appended c.encode-digest.ensures.octets
    (appended (c.encode-attributes.ensures.octets ∙ ap (λ (v : AttributeValues). attributes_octets v)
    c.of_values.ensures)
    (appended c.cms_encode-algorithm.ensures.octets c.encode-signature.ensures.encoded)))))

pub returns-clause-short : goal.returns-clause-short
returns-clause-short c =
    let few = parts-few (built_of c.self.inside.parts.now) c.self.invariant in (
      c.encode_version.ensures.short,
      (
        c.encode_as-identifier.ensures.short.1 few.1.1.1.1,
        (
          c.encode-digest.ensures.short,
          (
            c.encode-attributes.ensures.fits.0,
            (c.cms_encode-algorithm.ensures.short, c.encode-signature.ensures.short.1 few.1.1.1.0),
          ),
        ),
      ),
    )

use Rattle.std.proofs.Common.{◌∙◌, ap, sym}
use Rattle.rpki_attributes.specs.SignedAttributes.{AttributeValues, values_known, message_of}
use Rattle.rpki_c.proofs.ObjectLaws.{values-told, same-told}
use Rattle.rpki_c.proofs.signed_object.object_of.Goals as goal

pub returns-clause-object : goal.returns-clause-object
returns-clause-object c =
    let strict = c.args.strict in
    let v = c.args.found.now in
    let x = c.requires.0 in
    let at = c.requires.1 in
    let h = at.spelled in
    let p = at.parts in
    let l = h.spelled.two.spelled.spelled.two.two.two.two.spelled.spelled.two.two.two in
    let same = p.signer.attributes.values in
    record {
      object = x;
      spelled = h;
      parts = record {
        content_type = c.of.ensures ∙ p.content.content_type.octets;
        content = c.of-2.ensures ∙ p.content.content.octets;
        certificate = c.of-3.ensures ∙ p.cert.octets;
        signer = record {
          signed_attributes = c.of-4.ensures ∙ p.signer.attributes.section.octets;
          message = p.signer.attributes.message ∙ ap message_of (sym c.of-4.ensures);
          signature = c.of-5.ensures ∙ p.signer.signature.octets;
          identifier = c.from.ensures ∙ p.signer.identifier;
          parameters = c.has_parameters.ensures ∙ p.signer.algorithm;
          values =
              values-told strict l.one.value.1 (values_known v.signer.signed_attrs.values) x.signer.attributes.values
              same
              l.one.stands.values _ c.into_array.ensures c.is_some.ensures c.moment_if.ensures
              c.is_some-2.ensures c.unwrap_or.ensures;
        };
        is_type_signed =
            same-told c.are_same.result v.content.content_type.octets.now
            v.signer.signed_attrs.values.content_type.0.now x.content.content_type
            x.signer.attributes.values.content_type p.content.content_type.octets
            (ap (λ (w : AttributeValues). w.content_type) same) c.are_same.ensures;
      };
    }

use Rattle.rpki_der.proofs.FormatLaws.{tried, given, first, last, after, all, and}
use Rattle.rpki_der.proofs.KeepLaws.{held-after}
use Rattle.rpki_objects.specs.SignedObject.{object_of, data_fields_of, data_fields}
use Rattle.rpki_objects.proofs.signed_data.fn.SignedData.take_from.in_sequence_with.Goals as goal

pub returns-in_err-skip_u8_if : goal.returns-in_err-skip_u8_if
returns-in_err-skip_u8_if g c =
    tried (λ x. data_fields_of (object_of x)) (data_fields c.captures.strict) _ _ c.from_residual.ensures
    (first c.in_err-skip_u8_if.ensures)

pub returns-in_err-skip_set : goal.returns-in_err-skip_set
returns-in_err-skip_set g c =
    tried (λ x. data_fields_of (object_of x)) (data_fields c.captures.strict) _ _
    c.from_residual-in_err-skip_set.ensures
    (after c.in_ok-skip_u8_if.ensures (first c.in_err-skip_set.ensures))

pub returns-in_err-content : goal.returns-in_err-content
returns-in_err-content g c =
    tried (λ x. data_fields_of (object_of x)) (data_fields c.captures.strict) _ _
    c.from_residual-in_err-content.ensures
    (after c.in_ok-skip_u8_if.ensures (after c.in_ok-skip_set.ensures (first c.in_err-content.ensures)))

pub returns-in_err-cert : goal.returns-in_err-cert
returns-in_err-cert g c =
    tried (λ x. data_fields_of (object_of x)) (data_fields c.captures.strict) _ _
    c.from_residual-in_err-cert.ensures
    (after c.in_ok-skip_u8_if.ensures (after c.in_ok-skip_set.ensures (after c.in_ok-content.ensures
    (first c.in_err-cert.ensures))))

pub returns-in_err-signer : goal.returns-in_err-signer
returns-in_err-signer g c =
    tried (λ x. data_fields_of (object_of x)) (data_fields c.captures.strict) _ _
    c.from_residual-in_err-signer.ensures
    (after c.in_ok-skip_u8_if.ensures (after c.in_ok-skip_set.ensures (after c.in_ok-content.ensures
    (after c.in_ok-cert.ensures (last c.in_err-signer.ensures)))))

pub take_certificates-requires : goal.take_certificates-requires
take_certificates-requires g c =
    let holds = g.K.Keep.holds in
    let law = g.met.K.Keep.rest_held in
    let keep = c.args.keep in
    let version = held-after holds law keep c.in_ok-skip_u8_if.ensures c.requires in
    let digests = held-after holds law keep c.in_ok-skip_set.ensures version in
    held-after holds law keep c.in_ok-content.ensures digests

pub take_signers-requires : goal.take_signers-requires
take_signers-requires g c =
    let holds = g.K.Keep.holds in
    let law = g.met.K.Keep.rest_held in
    let keep = c.args.keep in
    let version = held-after holds law keep c.in_ok-skip_u8_if.ensures c.requires in
    let digests = held-after holds law keep c.in_ok-skip_set.ensures version in
    let content = held-after holds law keep c.in_ok-content.ensures digests in
    held-after holds law keep c.in_ok-cert.ensures content

pub returns : goal.returns
returns g c =
    given (and c.in_ok-skip_u8_if.ensures (and c.in_ok-skip_set.ensures (and c.in_ok-content.ensures
    (and c.in_ok-cert.ensures (all c.in_ok-signer.ensures)))))

use Rattle.rpki_der.proofs.FormatLaws.{tried, failed, given, first, last, after, all, and}
use Rattle.rpki_der.proofs.KeepLaws.{held-after}
use Rattle.rpki_objects.specs.SignedObject.{signer_of, signer_fields_of, signer_fields}
use Rattle.rpki_objects.proofs.signer_info.fn.SignerInfo.take_from.in_sequence_with.Goals as goal

pub returns-in_err-skip_u8_if : goal.returns-in_err-skip_u8_if
returns-in_err-skip_u8_if g c =
    tried (λ x. signer_fields_of (signer_of x)) (signer_fields c.captures.strict) _ _ c.from_residual.ensures
    (first c.in_err-skip_u8_if.ensures)

pub returns-in-Err : goal.returns-in-Err
returns-in-Err g c = failed (after c.in_ok-skip_u8_if.ensures (first c.in-Err.ensures))

pub returns-in_err-take_from : goal.returns-in_err-take_from
returns-in_err-take_from g c =
    tried (λ x. signer_fields_of (signer_of x)) (signer_fields c.captures.strict) _ _
    c.from_residual-in_err-take_from.ensures
    (after c.in_ok-skip_u8_if.ensures (after c.in-Ok.ensures (first c.in_err-take_from.ensures)))

pub returns-in_err-signed_attrs : goal.returns-in_err-signed_attrs
returns-in_err-signed_attrs g c =
    tried (λ x. signer_fields_of (signer_of x)) (signer_fields c.captures.strict) _ _
    c.from_residual-in_err-signed_attrs.ensures
    (after c.in_ok-skip_u8_if.ensures (after c.in-Ok.ensures (after c.in_ok-take_from.ensures
    (first c.in_err-signed_attrs.ensures))))

pub returns-in-Err-cms_take_from : goal.returns-in-Err-cms_take_from
returns-in-Err-cms_take_from g c =
    failed (after c.in_ok-skip_u8_if.ensures (after c.in-Ok.ensures (after c.in_ok-take_from.ensures
    (after c.in_ok-signed_attrs.ensures (first c.in-Err-cms_take_from.ensures.reads)))))

pub returns-in_err-value : goal.returns-in_err-value
returns-in_err-value g c =
    tried (λ x. signer_fields_of (signer_of x)) (signer_fields c.captures.strict) _ _
    c.from_residual-in_err-value.ensures
    (after c.in_ok-skip_u8_if.ensures (after c.in-Ok.ensures (after c.in_ok-take_from.ensures
    (after c.in_ok-signed_attrs.ensures (after c.in-Ok-cms_take_from.ensures.reads (last c.in_err-value.ensures))))))

pub returns : goal.returns
returns g c =
    rw c.new.ensures
    (given (and c.in_ok-skip_u8_if.ensures (and c.in-Ok.ensures (and c.in_ok-take_from.ensures
    (and c.in_ok-signed_attrs.ensures (and c.in-Ok-cms_take_from.ensures.reads (all c.in_ok-value.ensures)))))))

pub take_kept_octets-requires : goal.take_kept_octets-requires
take_kept_octets-requires g c =
    let holds = g.K.Keep.holds in
    let law = g.met.K.Keep.rest_held in
    let keep = c.args.keep in
    let version = held-after holds law keep c.in_ok-skip_u8_if.ensures c.requires in
    let signer = held-after holds law keep c.in-Ok.ensures version in
    let digest = held-after holds law keep c.in_ok-take_from.ensures signer in
    let attributes = held-after holds law keep c.in_ok-signed_attrs.ensures digest in
    held-after holds law keep c.in-Ok-cms_take_from.ensures.reads attributes

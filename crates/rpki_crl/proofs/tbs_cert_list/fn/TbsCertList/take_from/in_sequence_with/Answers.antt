use Rattle.rpki_der.specs.Prelude.{HasTag, sequence}
use Rattle.rpki_der.proofs.FormatLaws.{tried, failed, given, first, last, after, all, and, perhaps, past, past-and}
use Rattle.rpki_der.proofs.KeepLaws.{held-after, held-where}
use Rattle.rpki_crl.specs.Crl.{entries_of, fields_in, entries, fields}
use Rattle.rpki_crl.proofs.CrlLaws.{apart}
use Rattle.rpki_crl.proofs.tbs_cert_list.fn.TbsCertList.take_from.in_sequence_with.Goals as goal

pub returns-in_err-skip_u8_if : goal.returns-in_err-skip_u8_if
returns-in_err-skip_u8_if g c = tried fields_in fields _ _ c.from_residual.ensures (first c.in_err-skip_u8_if.ensures)

pub returns-in-Err : goal.returns-in-Err
returns-in-Err g c = failed (after c.in_ok-skip_u8_if.ensures (first c.in-Err.ensures))

pub returns-in_err-issuer : goal.returns-in_err-issuer
returns-in_err-issuer g c =
    tried fields_in fields _ _ c.from_residual-in_err-issuer.ensures
    (after c.in_ok-skip_u8_if.ensures (after c.in-Ok.ensures (first c.in_err-issuer.ensures)))

pub returns-in-Err-take_from : goal.returns-in-Err-take_from
returns-in-Err-take_from g c =
    failed (after c.in_ok-skip_u8_if.ensures (after c.in-Ok.ensures (after c.in_ok-issuer.ensures
    (first c.in-Err-take_from.ensures))))

pub returns-in-Err-take_from-2 : goal.returns-in-Err-take_from-2
returns-in-Err-take_from-2 g c =
    failed (after c.in_ok-skip_u8_if.ensures (after c.in-Ok.ensures (after c.in_ok-issuer.ensures
    (after c.in-Ok-take_from.ensures (first c.in-Err-take_from-2.ensures)))))

pub returns-in_err-revoked_certs : goal.returns-in_err-revoked_certs
returns-in_err-revoked_certs g c =
    tried fields_in fields _ _ c.from_residual-in_err-revoked_certs.ensures
    (after c.in_ok-skip_u8_if.ensures (after c.in-Ok.ensures (after c.in_ok-issuer.ensures
    (after c.in-Ok-take_from.ensures (after c.in-Ok-take_from-2.ensures
    (perhaps apart c.in_err-revoked_certs.ensures))))))

pub returns-in-Err-take_from-3 : goal.returns-in-Err-take_from-3
returns-in-Err-take_from-3 g c =
    failed (after c.in_ok-skip_u8_if.ensures (after c.in-Ok.ensures (after c.in_ok-issuer.ensures
    (after c.in-Ok-take_from.ensures (after c.in-Ok-take_from-2.ensures
    (past apart entries_of c.in_ok-revoked_certs.revoked_certs c.in_ok-revoked_certs.ensures
    (last c.in-Err-take_from-3.ensures)))))))

pub returns : goal.returns
returns g c =
    given (and c.in_ok-skip_u8_if.ensures (and c.in-Ok.ensures (and c.in_ok-issuer.ensures
    (and c.in-Ok-take_from.ensures (and c.in-Ok-take_from-2.ensures
    (past-and apart entries_of c.in_ok-revoked_certs.revoked_certs c.in_ok-revoked_certs.ensures
    (all c.in-Ok-take_from-3.ensures)))))))

pub take_from-requires-4 : goal.take_from-requires-4
take_from-requires-4 g c =
    let holds = g.K.Keep.holds in
    let law = g.met.K.Keep.rest_held in
    let keep = c.args.keep in
    let version = held-after holds law keep c.in_ok-skip_u8_if.ensures c.requires in
    let signature = held-after holds law keep c.in-Ok.ensures version in
    let issuer = held-after holds law keep c.in_ok-issuer.ensures signature in
    let this = held-after holds law keep c.in-Ok-take_from.ensures issuer in
    let next = held-after holds law keep c.in-Ok-take_from-2.ensures this in
    held-where holds law (HasTag sequence) entries_of entries.spells entries.fault c.in_ok-revoked_certs.revoked_certs
    keep
    c.in_ok-revoked_certs.ensures next

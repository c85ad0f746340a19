use Rattle.std.proofs.Common.{refl}
use Rattle.rpki_objects.specs.SignedObjectView.FirstWrong.{AtPart, Later}
use Rattle.rpki_objects.specs.SignedObjectView.IsFirstCertWrong.{BehindCert}
use Rattle.rpki_objects.proofs.ObjectViewLaws.{cert-wrong, data-read}
use Rattle.rpki_objects.proofs.ObjectWrongLaws.{number-wrong, digests-wrong}
use Rattle.rpki_objects.proofs.signed_object_view.read_fields.Goals as goal

pub returns-in-Err-clause-err : goal.returns-in-Err-clause-err
returns-in-Err-clause-err c = number-wrong _ _ _ _ 3 c.in-Err.ensures

pub returns-in-Err-skip_set-clause-err : goal.returns-in-Err-skip_set-clause-err
returns-in-Err-skip_set-clause-err c =
    Later _ _ c.in-Ok.ensures
    (digests-wrong _ _ _ _ c.in-Err-skip_set.ensures)

pub returns-in-Err-take_from-clause-err : goal.returns-in-Err-take_from-clause-err
returns-in-Err-take_from-clause-err c =
    let h = c.in-Err-take_from.ensures in
    Later _ _ c.in-Ok.ensures (Later _ _ c.in-Ok-skip_set.ensures (AtPart h.0 h.1 refl))

pub returns-in-Err-take_certificate-clause-err : goal.returns-in-Err-take_certificate-clause-err
returns-in-Err-take_certificate-clause-err c =
    Later _ _ c.in-Ok.ensures (Later _ _ c.in-Ok-skip_set.ensures (Later _ _ c.in-Ok-take_from.ensures.1
    (cert-wrong _ _ _ c.in-Err-take_certificate.ensures)))

pub returns-in-Ok-read_signers-clause-ok : goal.returns-in-Ok-read_signers-clause-ok
returns-in-Ok-read_signers-clause-ok c =
    data-read c.args.strict _ _ _ _ _ _ c.in-Ok.ensures c.in-Ok-skip_set.ensures c.in-Ok-take_from.ensures
    c.in-Ok-take_certificate.ensures c.in-Ok-read_signers.ensures.ok

pub returns-in-Err-read_signers-clause-err : goal.returns-in-Err-read_signers-clause-err
returns-in-Err-read_signers-clause-err c =
    let k = c.in-Ok-take_certificate.ensures in
    Later _ _ c.in-Ok.ensures (Later _ _ c.in-Ok-skip_set.ensures (Later _ _ c.in-Ok-take_from.ensures.1
    (BehindCert _ _ k.1 k.2 k.3.spelled c.in-Err-read_signers.ensures.err)))

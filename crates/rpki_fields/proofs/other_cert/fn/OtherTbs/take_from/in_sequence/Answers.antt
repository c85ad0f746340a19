use Rattle.rpki_der.specs.Cursor.{left}
use Rattle.rpki_der.proofs.FormatLaws.{tried, failed, given, first, after, and}
use Rattle.rpki_fields.specs.OtherCert.{tbs_of, other_fields, optional_of, optional_fields}
use Rattle.rpki_fields.proofs.OtherCertLaws.{rest-bad, rest-read}
use Rattle.rpki_fields.proofs.other_cert.fn.OtherTbs.take_from.in_sequence.Goals as goal

pub returns-in_err-skip_version : goal.returns-in_err-skip_version
returns-in_err-skip_version c =
    tried tbs_of other_fields _ _ c.from_residual.ensures
    (first c.in_err-skip_version.ensures)

pub returns-in_err-serial : goal.returns-in_err-serial
returns-in_err-serial c =
    tried tbs_of other_fields _ _ c.from_residual-in_err-serial.ensures
    (after c.in_ok-skip_version.ensures (first c.in_err-serial.ensures))

pub returns-in_err-algorithm : goal.returns-in_err-algorithm
returns-in_err-algorithm c =
    tried tbs_of other_fields _ _ c.from_residual-in_err-algorithm.ensures
    (after c.in_ok-skip_version.ensures (after c.in_ok-serial.ensures (first c.in_err-algorithm.ensures)))

pub returns-in_err-issuer : goal.returns-in_err-issuer
returns-in_err-issuer c =
    tried tbs_of other_fields _ _ c.from_residual-in_err-issuer.ensures
    (after c.in_ok-skip_version.ensures (after c.in_ok-serial.ensures (after c.in_ok-algorithm.ensures
    (first c.in_err-issuer.ensures))))

pub returns-in-Err : goal.returns-in-Err
returns-in-Err c = failed
    (after c.in_ok-skip_version.ensures (after c.in_ok-serial.ensures (after c.in_ok-algorithm.ensures
    (after c.in_ok-issuer.ensures (first c.in-Err.ensures)))))

pub returns-in_err-subject : goal.returns-in_err-subject
returns-in_err-subject c =
    tried tbs_of other_fields _ _ c.from_residual-in_err-subject.ensures
    (after c.in_ok-skip_version.ensures (after c.in_ok-serial.ensures (after c.in_ok-algorithm.ensures
    (after c.in_ok-issuer.ensures (after c.in-Ok.ensures (first c.in_err-subject.ensures))))))

pub returns-in_err-key : goal.returns-in_err-key
returns-in_err-key c =
    tried tbs_of other_fields _ _ c.from_residual-in_err-key.ensures
    (after c.in_ok-skip_version.ensures (after c.in_ok-serial.ensures (after c.in_ok-algorithm.ensures
    (after c.in_ok-issuer.ensures (after c.in-Ok.ensures (after c.in_ok-subject.ensures
    (first c.in_err-key.ensures)))))))

pub returns-in_err-optional : goal.returns-in_err-optional
returns-in_err-optional c =
    tried tbs_of other_fields _ _ c.from_residual-in_err-optional.ensures
    (after c.in_ok-skip_version.ensures (after c.in_ok-serial.ensures (after c.in_ok-algorithm.ensures
    (after c.in_ok-issuer.ensures (after c.in-Ok.ensures (after c.in_ok-subject.ensures
    (after c.in_ok-key.ensures
    (rest-bad optional_of optional_fields (left c.args.contents.now) c.in_err-optional.ensures))))))))

pub returns : goal.returns
returns c =
    given (and c.in_ok-skip_version.ensures (and c.in_ok-serial.ensures (and c.in_ok-algorithm.ensures
    (and c.in_ok-issuer.ensures (and c.in-Ok.ensures (and c.in_ok-subject.ensures (and c.in_ok-key.ensures
    (rest-read optional_of optional_fields c.in_ok-optional.ensures))))))))

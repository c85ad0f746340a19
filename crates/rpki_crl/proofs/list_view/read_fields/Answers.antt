use Rattle.std.proofs.Common.{refl}
use Rattle.rpki_x509.proofs.FrameLaws.{algorithm-refused}
use Rattle.rpki_x509.proofs.NameViewLaws.{name-refused}
use Rattle.rpki_crl.specs.CrlView.FirstWrong.{AtPart, Later}
use Rattle.rpki_crl.proofs.ListViewLaws.{version-refused, time-refused, extensions-wrong, revoked-wrong, listed}
use Rattle.rpki_crl.proofs.ListViewLaws.{fields-read, name-kind}
use Rattle.rpki_crl.proofs.TwoLaws.{extensions-refused}
use Rattle.rpki_crl.proofs.list_view.read_fields.Goals as goal

pub returns-in-Err-clause-err : goal.returns-in-Err-clause-err
returns-in-Err-clause-err c = AtPart (version-refused _ _ c.in-Err.e c.in-Err.ensures) c.in-Err.ensures.kind refl

pub returns-in-Err-x509_take_from-clause-err : goal.returns-in-Err-x509_take_from-clause-err
returns-in-Err-x509_take_from-clause-err c =
    Later _ _ c.in-Ok.ensures.spells
    (AtPart (algorithm-refused _ _ c.in-Err-x509_take_from.e c.in-Err-x509_take_from.ensures)
    c.in-Err-x509_take_from.ensures.kind refl)

pub returns-in-Err-take_name-clause-err : goal.returns-in-Err-take_name-clause-err
returns-in-Err-take_name-clause-err c =
    Later _ _ c.in-Ok.ensures.spells (Later _ _ c.in-Ok-x509_take_from.ensures.spells
    (AtPart (name-refused _ _ c.in-Err-take_name.e c.in-Err-take_name.ensures)
    (name-kind _ _ c.in-Err-take_name.ensures.kind) refl))

pub returns-in-Err-take_from-clause-err : goal.returns-in-Err-take_from-clause-err
returns-in-Err-take_from-clause-err c =
    Later _ _ c.in-Ok.ensures.spells (Later _ _ c.in-Ok-x509_take_from.ensures.spells
    (Later _ _ c.in-Ok-take_name.ensures.1.spells
    (AtPart (time-refused _ _ c.in-Err-take_from.e c.in-Err-take_from.ensures) c.in-Err-take_from.ensures.kind refl)))

pub returns-in-Err-take_from-2-clause-err : goal.returns-in-Err-take_from-2-clause-err
returns-in-Err-take_from-2-clause-err c =
    Later _ _ c.in-Ok.ensures.spells (Later _ _ c.in-Ok-x509_take_from.ensures.spells
    (Later _ _ c.in-Ok-take_name.ensures.1.spells
    (Later _ _ c.in-Ok-take_from.ensures.spells
    (AtPart (time-refused _ _ c.in-Err-take_from-2.e c.in-Err-take_from-2.ensures)
    c.in-Err-take_from-2.ensures.kind refl))))

pub returns-in-Err-take_revoked-clause-err : goal.returns-in-Err-take_revoked-clause-err
returns-in-Err-take_revoked-clause-err c =
    Later _ _ c.in-Ok.ensures.spells (Later _ _ c.in-Ok-x509_take_from.ensures.spells
    (Later _ _ c.in-Ok-take_name.ensures.1.spells
    (Later _ _ c.in-Ok-take_from.ensures.spells (Later _ _ c.in-Ok-take_from-2.ensures.spells
    (revoked-wrong _ _ c.in-Err-take_revoked.ensures)))))

pub returns-in-Err-read_extensions-clause-err : goal.returns-in-Err-read_extensions-clause-err
returns-in-Err-read_extensions-clause-err c =
    Later _ _ c.in-Ok.ensures.spells (Later _ _ c.in-Ok-x509_take_from.ensures.spells
    (Later _ _ c.in-Ok-take_name.ensures.1.spells
    (Later _ _ c.in-Ok-take_from.ensures.spells (Later _ _ c.in-Ok-take_from-2.ensures.spells
    (extensions-wrong _ _ _ _ c.in-Ok-take_revoked.ensures
    (extensions-refused _ _ c.in-Err-read_extensions.ensures))))))

pub returns-in-Ok-read_extensions-clause-ok : goal.returns-in-Ok-read_extensions-clause-ok
returns-in-Ok-read_extensions-clause-ok c =
    fields-read _ _ _ _ _ _ _ _ c.in-Ok.ensures c.in-Ok-x509_take_from.ensures c.in-Ok-take_name.ensures.1
    c.in-Ok-take_name.ensures.2
    c.in-Ok-take_from.ensures c.in-Ok-take_from-2.ensures
    (listed _ _ _ _ c.in-Ok-take_revoked.ensures c.in-Ok-read_extensions.ensures.0)

use Rattle.std.proofs.Common.{refl}
use Rattle.rpki_objects.specs.SignedObjectView.FirstWrong.{AtPart, Later}
use Rattle.rpki_objects.proofs.ObjectViewLaws.{signer-read}
use Rattle.rpki_objects.proofs.ObjectWrongLaws.{number-wrong, identifier-wrong, digest-wrong, cms-wrong}
use Rattle.rpki_objects.proofs.signer_view.read_fields.Goals as goal

pub returns-in-Err-clause-err : goal.returns-in-Err-clause-err
returns-in-Err-clause-err c = number-wrong _ _ _ _ 3 c.in-Err.ensures

pub returns-in-Err-take_identifier-clause-err : goal.returns-in-Err-take_identifier-clause-err
returns-in-Err-take_identifier-clause-err c =
    Later _ _ c.in-Ok.ensures
    (identifier-wrong _ _ _ _ c.in-Err-take_identifier.ensures)

pub returns-in-Err-take_from-clause-err : goal.returns-in-Err-take_from-clause-err
returns-in-Err-take_from-clause-err c =
    Later _ _ c.in-Ok.ensures (Later _ _ c.in-Ok-take_identifier.ensures
    (digest-wrong _ _ _ _ c.in-Err-take_from.ensures))

pub returns-in-None-clause-err : goal.returns-in-None-clause-err
returns-in-None-clause-err c =
    Later _ _ c.in-Ok.ensures (Later _ _ c.in-Ok-take_identifier.ensures (Later _ _ c.in-Ok-take_from.ensures
    (AtPart c.in-None.ensures c.attributes_fault.ensures refl)))

pub returns-in-Err-cms_take_from-clause-err : goal.returns-in-Err-cms_take_from-clause-err
returns-in-Err-cms_take_from-clause-err c =
    Later _ _ c.in-Ok.ensures (Later _ _ c.in-Ok-take_identifier.ensures (Later _ _ c.in-Ok-take_from.ensures
    (Later _ _ c.in-Some.ensures.1
    (cms-wrong _ _ _ _ c.in-Err-cms_take_from.ensures.reads))))

pub returns-in-Err-read_octets-clause-err : goal.returns-in-Err-read_octets-clause-err
returns-in-Err-read_octets-clause-err c =
    let h = c.in-Err-read_octets.ensures in
    Later _ _ c.in-Ok.ensures (Later _ _ c.in-Ok-take_identifier.ensures (Later _ _ c.in-Ok-take_from.ensures
    (Later _ _ c.in-Some.ensures.1 (Later _ _ c.in-Ok-cms_take_from.ensures.reads
    (h.0, h.1, refl)))))

pub returns-in-Ok-read_octets-clause-ok : goal.returns-in-Ok-read_octets-clause-ok
returns-in-Ok-read_octets-clause-ok c =
    signer-read c.args.strict _ _ _ _ _ _ _ _ c.in-Ok.ensures c.in-Ok-take_identifier.ensures c.in-Ok-take_from.ensures
    c.in-Some.ensures c.in-Ok-cms_take_from.ensures.reads c.in-Ok-read_octets.ensures.0
    (record { octets = refl; following = refl })

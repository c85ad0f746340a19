use Rattle.std.proofs.Common.{refl}
use Rattle.rpki_contents.specs.ManifestView.FirstPart.{AtPart, Later}
use Rattle.rpki_contents.proofs.ManifestViewLaws.{no-number, no-time, no-digest, fields-read}
use Rattle.rpki_contents.proofs.manifest_view.read_fields.Goals as goal

pub returns-in-Err-clause-err : goal.returns-in-Err-clause-err
returns-in-Err-clause-err c = AtPart (no-number _ _ c.in-Err.error c.in-Err.ensures) c.in-Err.ensures.kind refl

pub returns-in-Err-take_generalized_from-clause-err : goal.returns-in-Err-take_generalized_from-clause-err
returns-in-Err-take_generalized_from-clause-err c =
    let h = c.in-Err-take_generalized_from.ensures in
    Later _ _ c.in-Ok.ensures.spells (AtPart (no-time _ _ c.in-Err-take_generalized_from.error h) h.kind refl)

pub returns-in-Err-take_generalized_from-2-clause-err : goal.returns-in-Err-take_generalized_from-2-clause-err
returns-in-Err-take_generalized_from-2-clause-err c =
    let h = c.in-Err-take_generalized_from-2.ensures in
    Later _ _ c.in-Ok.ensures.spells (Later _ _ c.in-Ok-take_generalized_from.ensures.spells
    (AtPart (no-time _ _ c.in-Err-take_generalized_from-2.error h) h.kind refl))

pub returns-in-Err-take_oid_from-clause-err : goal.returns-in-Err-take_oid_from-clause-err
returns-in-Err-take_oid_from-clause-err c =
    let h = c.in-Err-take_oid_from.ensures in
    Later _ _ c.in-Ok.ensures.spells (Later _ _ c.in-Ok-take_generalized_from.ensures.spells
    (Later _ _ c.in-Ok-take_generalized_from-2.ensures.spells
    (AtPart (no-digest _ _ c.in-Err-take_oid_from.error h) h.kind refl)))

pub returns-in-Err-read_list-clause-err : goal.returns-in-Err-read_list-clause-err
returns-in-Err-read_list-clause-err c =
    Later _ _ c.in-Ok.ensures.spells (Later _ _ c.in-Ok-take_generalized_from.ensures.spells
    (Later _ _ c.in-Ok-take_generalized_from-2.ensures.spells (Later _ _ c.in-Ok-take_oid_from.ensures.spells
    c.in-Err-read_list.ensures)))

pub returns-in-Ok-read_list-clause-ok : goal.returns-in-Ok-read_list-clause-ok
returns-in-Ok-read_list-clause-ok c =
    fields-read _ _ _ _ _ _ c.in-Ok.ensures c.in-Ok-take_generalized_from.ensures
    c.in-Ok-take_generalized_from-2.ensures c.in-Ok-take_oid_from.ensures c.in-Ok-read_list.ensures

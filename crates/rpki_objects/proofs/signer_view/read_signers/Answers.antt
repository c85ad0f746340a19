use Rattle.std.proofs.Common.{refl}
use Rattle.rpki_objects.specs.SignedObjectView.WrongWithin.{Outside, Inside}
use Rattle.rpki_objects.proofs.ObjectViewLaws.{signers-handed, signers-handed-wrong}
use Rattle.rpki_objects.proofs.signer_view.read_signers.Goals as goal

pub returns-in-Err-clause-err : goal.returns-in-Err-clause-err
returns-in-Err-clause-err c = Outside c.in-Err.ensures.gives c.in-Err.ensures.fault refl

pub returns-in-Err-inside-clause-err : goal.returns-in-Err-inside-clause-err
returns-in-Err-inside-clause-err c =
    let h = c.in-Ok.ensures.gives in
    Inside _ h.0 h.1 (Outside c.in-Err-inside.ensures.gives c.in-Err-inside.ensures.fault refl)

pub returns-in-Ok-inside-clause-ok : goal.returns-in-Ok-inside-clause-ok
returns-in-Ok-inside-clause-ok c =
    signers-handed c.args.strict _ _ _ c.read_fields.result c.in-Ok.ensures.gives.0 c.in-Ok-inside.ensures.gives.0
    c.read_fields.ensures.ok

pub returns-in-Ok-inside-clause-err : goal.returns-in-Ok-inside-clause-err
returns-in-Ok-inside-clause-err c =
    signers-handed-wrong c.args.strict _ _ _ c.read_fields.result c.in-Ok.ensures.gives c.in-Ok-inside.ensures.gives
    c.read_fields.ensures.err

use Rattle.std.proofs.Common.{true}
use Rattle.rpki_der.specs.Cursor.{left}
use Rattle.rpki_der.specs.Values.{SpellsContents}
use Rattle.rpki_der.proofs.TriedLaws.{tried-error}
use Rattle.rpki_x509.proofs.FrameLaws.{only-all, only-more, only-none, frame-more, frame-none}
use Rattle.rpki_x509.proofs.TriedLaws.{tried-all}
use Rattle.rpki_x509.proofs.value.inside.Goals as goal

pub returns-in_err-contents-clause-gives : goal.returns-in_err-contents-clause-gives
returns-in_err-contents-clause-gives c =
    tried-all left (SpellsContents c.args.tag true) _ _ _ c.from_residual.ensures
    (only-none c.args.tag _ _ c.in_err-contents.field-0.0 c.in_err-contents.ensures)

pub returns-in_err-contents-clause-fault : goal.returns-in_err-contents-clause-fault
returns-in_err-contents-clause-fault c = tried-error _ _ _ c.from_residual.ensures
    (frame-none c.args.tag _ _ c.in_err-contents.field-0.0 c.in_err-contents.ensures)

pub returns-in_err-finish-clause-gives : goal.returns-in_err-finish-clause-gives
returns-in_err-finish-clause-gives c =
    tried-all left (SpellsContents c.args.tag true) _ _ _ c.from_residual-in_err-finish.ensures
    (only-more c.args.tag _ _ _ c.in_ok-contents.ensures c.in_err-finish.ensures.1)

pub returns-in_err-finish-clause-fault : goal.returns-in_err-finish-clause-fault
returns-in_err-finish-clause-fault c = tried-error _ _ _ c.from_residual-in_err-finish.ensures
    (frame-more c.args.tag _ _ _ c.in_ok-contents.ensures c.in_err-finish.ensures.1 _ c.in_err-finish.ensures.0)

pub returns-clause-gives : goal.returns-clause-gives
returns-clause-gives c = only-all c.args.tag _ _ _ c.in_ok-contents.ensures c.in_ok-finish.ensures

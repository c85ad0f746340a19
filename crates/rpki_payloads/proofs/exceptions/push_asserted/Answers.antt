use Rattle.rpki_payloads.proofs.ExceptionLaws.{added-none, added-next}
use Rattle.rpki_payloads.proofs.exceptions.push_asserted.Goals as goal

pub files-init : goal.files-init
files-init c = added-none c.args.all.now.items

pub files-preserved : goal.files-preserved
files-preserved c =
    rw c.in_ok-push.ensures.items
    (added-next c.args.files.now c.files.file-index c.file-item.result _ _ c.in_ok-one.one c.files-test.true
    c.file-item.is c.files.invariant c.in_ok-one.ensures)

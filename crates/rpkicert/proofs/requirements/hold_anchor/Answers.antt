use Rattle.rpkicert.specs.Fault.{bad_text}
use Rattle.rpki_valid.specs.Valid.{HasReason}
use Rattle.rpkicert.specs.declared.fault.Clause.TheVariants as C
use Rattle.rpkicert.specs.Requirements.{IsSelfSigned}
use Rattle.rpkicert.proofs.RequirementsLaws.{by-one}
use Rattle.rpkicert.proofs.requirements.hold_anchor.Goals as goal

pub returns : goal.returns
returns c =
    by-one C.Anchor IsSelfSigned (λ x. HasReason bad_text) _ _ c.check_anchor.result c.by.result
    c.anchor.ensures c.check_anchor.ensures c.by.ensures

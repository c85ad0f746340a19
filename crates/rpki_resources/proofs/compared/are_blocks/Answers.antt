use Rattle.rpki_der.specs.Cursor.{left}
use Rattle.rpki_resources.proofs.ComparedLaws.{are-all, are-left, first-wrong}
use Rattle.rpki_resources.proofs.compared.are_blocks.Goals as goal

pub returns-in-Ok : goal.returns-in-Ok
returns-in-Ok c = (
  λ z. are-all c.args.kind (left c.args.octets) c.in-Ok.first _ c.in-Ok.ensures (c.are_following.ensures.0 z),
  λ z. c.are_following.ensures.1 (are-left c.args.kind (left c.args.octets) c.in-Ok.first _ c.in-Ok.ensures z),
)

pub returns-in-Err : goal.returns-in-Err
returns-in-Err c = (
  λ z. let wrong : ⊥ = cc in absurd wrong,
  λ z. absurd (first-wrong c.args.kind (left c.args.octets) _ c.in-Err.field-0 c.in-Err.ensures z.0 z.1),
)

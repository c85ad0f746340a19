use Rattle.std.proofs.Common.{rules}
use Rattle.rpki_der.proofs.InsideLaws.{read-whole}
use Rattle.rpki_objects.specs.TypedObject.{origin_object}
use Rattle.rpki_objects.proofs.roa.Roa.decode.Goals as goal

pub returns : goal.returns
returns c =
    let format = origin_object c.args.strictness in
    read-whole (λ x. x) format.spells format.fault _ (λ b a x h. search rules) _ _
    (rw c.new.ensures at c.whole_with.ensures)

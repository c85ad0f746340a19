use Rattle.std.proofs.Common.{rules, ◌^◌}
use Rattle.rpki_der.specs.Prelude.{integer, IsUnsignedBelow}
use Rattle.rpki_der.proofs.FormatLaws.{takes-each-leaf}
use Rattle.rpki_contents.proofs.aspa.take_each_number.Goals as goal

pub returns : goal.returns
returns c =
    takes-each-leaf _ integer (IsUnsignedBelow (2 ^ 32)) (λ b a x h. search rules) (λ v. v.items) _ _ _
    c.take_each.ensures

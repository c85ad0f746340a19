-- Which extensions are equal.
use Rattle.std.specs.Prelude.{Bool, nat_eq}
use Rattle.std.specs.Ordering.{on, eq_of_both}
use Rattle.std.specs.Cmp.Lexicographic.{pointwise}
use mathlib.Core.Bool.{beq}
use Rattle.rpki.specs.ExtensionValue.{ExtensionParts}

-- the same identifier, critical both or neither, and the same octets
abbrev pub same_extension : ExtensionParts → ExtensionParts → Bool
same_extension = eq_of_both (on (λ x. x.identifier) (pointwise nat_eq))
    (eq_of_both (on (λ x. x.critical) beq) (on (λ x. x.content) (pointwise nat_eq)))

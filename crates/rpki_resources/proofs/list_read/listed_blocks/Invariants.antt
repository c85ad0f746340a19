use Rattle.std.proofs.Common.{length}
use Rattle.std.specs.Option.{option_map}
use Rattle.rpki_resources.specs.ListRead.{parts_of_rest}
use Rattle.rpki_resources.proofs.ListReadLaws.{Reading}
use Rattle.rpki_resources.proofs.list_read.listed_blocks.Given as goal

-- what the remaining parts say, all say
abbrev pub invariant-parts : goal.invariant-parts
invariant-parts l = Reading l.kind l.text l.found.items (option_map (λ t. t.now) l.left)

abbrev pub decreases-parts : goal.decreases-parts
decreases-parts l = length (parts_of_rest (option_map (λ t. t.now) l.left))

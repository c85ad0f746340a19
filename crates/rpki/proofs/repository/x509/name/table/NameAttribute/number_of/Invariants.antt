use Rattle.std.proofs.Common.{ℕ, ◌-◌, ◌<◌, length}
use Rattle.rpki.specs.NameTable.{name_table, HasRow}
use Rattle.rpki.proofs.repository.x509.name.table.NameAttribute.number_of.Given as goal

abbrev pub invariant-loop-number : goal.invariant-loop-number
invariant-loop-number l = (k : ℕ) → k < l.number → HasRow name_table k l.identifier.0.now → ⊥

abbrev pub decreases-loop-number : goal.decreases-loop-number
decreases-loop-number l = length name_table - l.number

use Rattle.std.specs.Prelude.{ℕ, List, drop}
use Rattle.rpki_der.specs.declared.members.Members.{Members}
use Rattle.rpki_der.specs.IndexMembers.{numbers_from}

-- the numbers of the members from this entry on
abbrev pub numbers_behind : Members → ℕ → List ℕ
numbers_behind m number = numbers_from number m.parent (drop number m.entries.now)

-- the remaining numbers
unfoldable pub numbers_left : Members → List ℕ
numbers_left m = numbers_from m.next m.parent (drop m.next m.entries.now)

use Rattle.std.proofs.Common.{take}
use Rattle.rpki_payloads.specs.Exceptions.{AreEach, IsWithout}
use Rattle.rpki_payloads.proofs.exceptions.all_without.Given as goal

abbrev pub invariant-all : goal.invariant-all
invariant-all l = AreEach (IsWithout l.prefix_filters l.key_filters) (take l.one-index l.all) l.left.items

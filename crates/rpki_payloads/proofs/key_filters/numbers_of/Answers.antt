use Rattle.std.specs.BTreeSet.{keys}
use Rattle.std.specs.List.{Contains}
use Rattle.std.specs.Prelude.{None, Some}
use Rattle.rpki_payloads.specs.Asked.{IsWithin, asked}
use Rattle.rpki_payloads.proofs.AskedLaws.{both-are}
use Rattle.rpki_payloads.proofs.key_filters.numbers_of.Goals as goal

pub returns : goal.returns
returns c = λ n.
    both-are (IsWithin c.args.key.now n) (Contains (keys c.args.all.now) (asked None (Some n)))
    (Contains (keys c.args.all.now) (asked (Some c.args.key.now.identifier) (Some n))) c.new-numbers.result.items
    c.push_numbers.new.numbers.items c.push_numbers-2.new.numbers.items n c.new-numbers.ensures.items
    (c.in_ok-push_numbers.ensures n) (rw c.identifier_of.ensures at (c.in_ok-push_numbers-2.ensures n))

use Rattle.std.proofs.Common.{◌≡◌, true}
use Rattle.std.specs.BTreeSet.{keys}
use Rattle.rpki_payloads.proofs.AskedLaws.{left-parts}
use Rattle.rpki_payloads.proofs.key_filters.push_left.Goals as goal

pub push_parts-requires-clause-within : goal.push_parts-requires-clause-within
push_parts-requires-clause-within c = λ n h.
    ((c.in_ok-numbers.ensures.each n).0 (rw c.as_slice.ensures.value at h)).0

pub returns : goal.returns
returns c =
    left-parts (keys c.args.all.now) c.args.key.now c.in_ok-numbers.numbers.items c.as_slice.result.now
    c.args.keys.now.items c.push_parts.new.keys.items c.as_slice.ensures.value c.in_ok-numbers.ensures.each
    (λ a. let t : c.asks_all.result ≡ true = c.asks_all.ensures.1 a in absurd (cc c.if-asks_all.false))
    c.in_ok-push_parts.ensures

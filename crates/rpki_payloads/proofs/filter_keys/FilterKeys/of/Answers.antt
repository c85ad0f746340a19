use Rattle.std.proofs.lemmas.Map.Lookups.{exact_unsigned}
use Rattle.rpki_payloads.proofs.FilterKeyLaws.{lengths-once}
use Rattle.rpki_payloads.proofs.filter_keys.FilterKeys.of.Goals as goal

pub returns : goal.returns
returns c = record {
  each = c.in_ok-keys.ensures;
  lens =
      lengths-once c.args.filters.now c.in_ok-lengths.lengths.items c.sort_once.new.all.items c.in_ok-lengths.ensures
      c.sort_once.ensures.none (c.sort_once.ensures.all exact_unsigned);
}

use Rattle.std.proofs.Common.{◌≡◌, ◌++◌, take}
use Rattle.std.specs.List.{flat_map}
use Rattle.rpki_payloads.specs.Metrics.{counted_samples}
use Rattle.rpki_payloads.proofs.metrics.push_all_counted.Given as goal

abbrev pub invariant-all : goal.invariant-all
invariant-all l = l.text.items ≡ l.initial.text.items ++ flat_map counted_samples (take l.one-index l.all)

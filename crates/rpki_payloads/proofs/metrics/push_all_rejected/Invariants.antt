use Rattle.std.proofs.Common.{◌≡◌, ◌++◌, take}
use Rattle.std.specs.List.{flat_map}
use Rattle.rpki_payloads.specs.Metrics.{rejected_samples}
use Rattle.rpki_payloads.proofs.metrics.push_all_rejected.Given as goal

abbrev pub invariant-all : goal.invariant-all
invariant-all l = l.text.items ≡ l.initial.text.items ++ flat_map rejected_samples (take l.one-index l.all)

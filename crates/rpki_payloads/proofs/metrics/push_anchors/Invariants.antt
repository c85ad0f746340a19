use Rattle.std.proofs.Common.{◌≡◌, ◌++◌, take}
use Rattle.std.specs.List.{flat_map}
use Rattle.rpki_payloads.specs.Metrics.{anchor_samples}
use Rattle.rpki_payloads.proofs.metrics.push_anchors.Given as goal

abbrev pub invariant-all : goal.invariant-all
invariant-all l = l.text.items ≡ l.initial.text.items ++ flat_map anchor_samples (take l.one-index l.all)

use Rattle.std.proofs.Common.{◌≡◌, ◌++◌, take}
use Rattle.std.specs.List.{flat_map}
use Rattle.rpki_payloads.specs.Lines.{openbgpd_vap}
use Rattle.rpki_payloads.proofs.customers.push_vaps.Given as goal

abbrev pub invariant-vaps : goal.invariant-vaps
invariant-vaps l = l.text.items ≡ l.initial.text.items ++ flat_map openbgpd_vap (take l.vap-index l.vaps)

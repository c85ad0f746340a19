use Rattle.std.proofs.Common.{◌≡◌, ◌++◌, take}
use Rattle.std.specs.List.{flat_map}
use Rattle.rpki_payloads.specs.RouterKey.{block_keys}
use Rattle.rpki_payloads.proofs.router_key.push_router_keys.Given as goal

abbrev pub invariant-each : goal.invariant-each
invariant-each l =
    l.keys.items ≡ l.initial.keys.items ++ flat_map (block_keys l.identifier l.info) (take l.block-index l.blocks)

use Rattle.std.proofs.Common.{◌≡◌, take}
use Rattle.std.specs.List.{flat_map}
use Rattle.rpkivalid.specs.Found.{router_keys}
use Rattle.rpkivalid.proofs.gathered.keys_in.Given as goal

abbrev pub invariant-each : goal.invariant-each
invariant-each g l =
    l.keys.items
    ≡ flat_map (λ p. router_keys (g.P.Provider.sha1_of l.provider) p.value) (take l.router-index l.routers)

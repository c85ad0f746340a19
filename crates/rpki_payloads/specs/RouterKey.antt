-- Keys of BGPsec routers (RFC 8210 5.10, RFC 8635).
use Rattle.std.specs.Prelude.{◌&&◌, ℕ, List, [], ◌∷◌, nat_lt, if◌then◌else◌}
use Rattle.std.specs.Ordering.{nat_cmp, ordering_then}
use Rattle.std.specs.Cmp.Lexicographic.{slice_cmp}
use Rattle.std.specs.declared.cmp.Ordering.{Ordering}
use Rattle.rpki_resources.specs.declared.block.Block.{Block}
use Rattle.rpki_payloads.specs.declared.router_key.RouterKey.{RouterKey}

-- by the AS numbers, the identifier, and the key
abbrev pub key_cmp : RouterKey → RouterKey → Ordering
key_cmp v w =
    ordering_then (nat_cmp v.first w.first) (ordering_then (nat_cmp v.last w.last)
    (ordering_then (slice_cmp nat_cmp v.identifier w.identifier) (slice_cmp nat_cmp v.info w.info)))

abbrev pub router_key : (first last : ℕ) (identifier info : List ℕ) → RouterKey
router_key first last identifier info =
    record { first = first; last = last; identifier = identifier; info = info }

-- the key for a block of AS numbers, which are below 2^32
abbrev pub block_keys : (identifier info : List ℕ) → Block → List RouterKey
block_keys identifier info b =
    if nat_lt b.low 4_294_967_296 && nat_lt b.high 4_294_967_296 then router_key b.low b.high identifier info ∷ []
    else []

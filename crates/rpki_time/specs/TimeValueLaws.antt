-- What is written of a time is one value.
use Rattle.std.specs.Prelude.{◌≡◌, ◌↔◌, Bool, true, false, refl}
use Rattle.std.proofs.Common.{lit<}
use Rattle.jiff.specs.Types.{DateTime}
use Rattle.rpki_der.specs.Prelude.{IsTag, utc_time, generalized_time, IsValue, IsValueList, primitive_value}
use Rattle.rpki_der.specs.Prelude.{tree_octets, IsShortTree}
use Rattle.rpki_time.specs.TimeText.{utc_text, generalized_text, is_utc_year}
use Rattle.rpki_time.specs.TimeValue.{octets_where, time_octets, tree_where, time_tree}

pub utc-legal : IsTag utc_time
utc-legal = record { below = lit< tt; named = λ _. lit< tt }

pub generalized-legal : IsTag generalized_time
generalized-legal = record { below = lit< tt; named = λ _. lit< tt }

value-where : (utc : Bool) (t : DateTime) → IsValue (octets_where utc t)
value-where true t = primitive_value utc_time (utc_text t) utc-legal (lit< tt)
value-where false t = primitive_value generalized_time (generalized_text t) generalized-legal (lit< tt)

pub time_is_value : (t : DateTime) → IsValue (time_octets t)
time_is_value t = value-where (is_utc_year t.date.year) t

pub time_is_value_list : (t : DateTime) → IsValueList (time_octets t)
time_is_value_list t = (1, time_is_value t)

-- ---- the same as a tree

spelled-where : (utc : Bool) (t : DateTime) → octets_where utc t ≡ tree_octets (tree_where utc t)
spelled-where true t = refl
spelled-where false t = refl

pub time_spelled : (t : DateTime) → time_octets t ≡ tree_octets (time_tree t)
time_spelled t = spelled-where (is_utc_year t.date.year) t

short-where : (utc : Bool) (t : DateTime) → Unit {0} ↔ IsShortTree (tree_where utc t)
short-where true t = (λ _. lit< tt, λ _. tt)
short-where false t = (λ _. lit< tt, λ _. tt)

pub time_measured : (t : DateTime) → Unit {0} ↔ IsShortTree (time_tree t)
time_measured t = short-where (is_utc_year t.date.year) t

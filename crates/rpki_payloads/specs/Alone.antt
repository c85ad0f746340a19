-- What one list of payloads has, and another one has not.
use Rattle.std.specs.Prelude.{◌&&◌, ◌++◌, ℕ, Bool, List, ◌==◌, codes, length, not}
use Rattle.std.specs.List.{filter, flat_map, list_any}
use Rattle.std.specs.Ordering.{is_eq}
use Rattle.rpki_payloads.specs.declared.vrp.Vrp.{Vrp}
use Rattle.rpki_payloads.specs.Route.{payload_text}
use Rattle.rpki_payloads.specs.Vrp.{vrp_cmp}

-- the same payload: its prefix, its maximum length and its AS number
abbrev pub is_same : Vrp → Vrp → Bool
is_same v w = is_eq (vrp_cmp w v)

-- one of these is the payload
abbrev pub is_among : Vrp → List Vrp → Bool
is_among v vrps = list_any (is_same v) vrps

-- those that are none of the others, in their order
abbrev pub only_in : (vrps others : List Vrp) → List Vrp
only_in vrps others = filter (λ v. not (is_among v others)) vrps

-- neither has one that the other has not
abbrev pub are_same : (here there : List Vrp) → Bool
are_same here there = (length (only_in here there) == 0) && (length (only_in there here) == 0)

-- ---- texts: a line a payload, which ends in this

abbrev pub alone_line : List ℕ → Vrp → List ℕ
alone_line end v = payload_text v ++ end

-- what the one has alone, and then what the other has
abbrev pub alone_text : (here there : List Vrp) → List ℕ
alone_text here there =
    flat_map (alone_line (codes ": only here\n")) (only_in here there)
    ++ flat_map (alone_line (codes ": only there\n")) (only_in there here)

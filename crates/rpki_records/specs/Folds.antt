-- Folded lines of a vCard (RFC 6350 3.2): a line break (CR LF) that a white-space character follows, a space or a
-- horizontal tab, isn't the end of a line, and counts for nothing with that character.
use Rattle.std.specs.Prelude.{ℕ, zero, suc, Bool, false, ◌&&◌, ◌||◌, List, [], ◌∷◌, Option, Some, None}
use Rattle.std.specs.Prelude.{if◌then◌else◌, eqb}

-- WSP
abbrev pub is_blank : ℕ → Bool
is_blank x = eqb x 32 || eqb x 9

-- a line break and a white-space character are in front
abbrev pub begins_fold : List ℕ → Bool
begins_fold [] = false
begins_fold (x ∷ []) = false
begins_fold (x ∷ y ∷ []) = false
begins_fold (x ∷ y ∷ z ∷ s) = eqb x 13 && (eqb y 10 && is_blank z)

-- s without the first k octets, and without the folds of what follows these
abbrev pub unfolded_from : ℕ → List ℕ → List ℕ
unfolded_from k [] = []
unfolded_from zero (x ∷ s) = if begins_fold (x ∷ s) then unfolded_from 2 s else x ∷ unfolded_from 0 s
unfolded_from (suc k) (x ∷ s) = unfolded_from k s

-- all of s without its folds
abbrev pub unfolded : List ℕ → List ℕ
unfolded s = unfolded_from 0 s

-- s without the first k octets, and without the folds in front of what follows these
abbrev pub after_folds_from : ℕ → List ℕ → List ℕ
after_folds_from k [] = []
after_folds_from zero (x ∷ s) = if begins_fold (x ∷ s) then after_folds_from 2 s else x ∷ s
after_folds_from (suc k) (x ∷ s) = after_folds_from k s

-- s without the folds in front
abbrev pub after_folds : List ℕ → List ℕ
after_folds s = after_folds_from 0 s

abbrev pub first_of : List ℕ → Option (ℕ × List ℕ)
first_of [] = None
first_of (x ∷ s) = Some (x, s)

-- the first octet that is of no fold, and what follows it
abbrev pub next_octet : List ℕ → Option (ℕ × List ℕ)
next_octet s = first_of (after_folds s)

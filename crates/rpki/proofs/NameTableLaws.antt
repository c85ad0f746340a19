-- Tables of the attributes that names may have.
use Rattle.std.proofs.Common.{◌≡◌, ℕ, suc, zero, ◌<◌, ◌≤◌, ◌⊎◌, inl, inr, Bool, true, false, if◌then◌else◌}
use Rattle.std.proofs.Common.{length-append, List, [], ◌∷◌, ◌++◌, length, nat_eq, refl, sym, ap, subst, ◌∙◌, arith}
use Rattle.std.specs.List.{All}
use Rattle.std.specs.Cmp.Lexicographic.{pointwise, pointwise_decides}
use Rattle.std.proofs.lemmas.Bool.Decides.{Decides-eqb}
use Rattle.std.proofs.lemmas.List.{get_or_append_left}
use Rattle.std.proofs.lemmas.List.Elements.{All-head, All-tail}
use Rattle.rpki.specs.Name.{Attribute}
use Rattle.rpki.specs.NameTable.{Row, row_at, HasRow, name_table}
use Rattle.rpki.specs.StrictName.{has_identifier, count_of, IsPermitted, IsStrict, IsNameOf}

-- ---- no identifier has two rows

abbrev pub Distinct : List Row → Type 0
Distinct T = (j k : ℕ) → j < length T → k < length T → (row_at T j).identifier ≡ (row_at T k).identifier → j ≡ k

-- whether a table has a row of the identifier
has_row : List ℕ → List Row → Bool
has_row o [] = false
has_row o (r ∷ rest) = if pointwise nat_eq r.identifier o then true else has_row o rest

are_distinct : List Row → Bool
are_distinct [] = true
are_distinct (r ∷ rest) = if has_row r.identifier rest then false else are_distinct rest

here-or-there : (b c : Bool) → c ≡ true → (if b then true else c) ≡ true
here-or-there true c h = refl
here-or-there false c h = h

has-row : (o : List ℕ) (T : List Row) (k : ℕ) → k < length T → (row_at T k).identifier ≡ o → has_row o T ≡ true
unfolding has_row
has-row o [] k below e = absurd (omega (arith, below))
has-row o (r ∷ rest) zero below e = rw ((pointwise_decides Decides-eqb r.identifier o).1 e) refl
has-row o (r ∷ rest) (suc k) below e =
    here-or-there (pointwise nat_eq r.identifier o) (has_row o rest) (has-row o rest k (omega (arith, below)) e)

not-both : (b c : Bool) → b ≡ true → (if b then false else c) ≡ true → ⊥
not-both true c e h = cc
not-both false c e h = cc

the-rest : (b c : Bool) → (if b then false else c) ≡ true → c ≡ true
the-rest true c h = absurd (cc)
the-rest false c h = h

are-distinct : (T : List Row) → are_distinct T ≡ true → Distinct T
unfolding has_row are_distinct
are-distinct [] h j k lj lk e = absurd (omega (arith, lj))
are-distinct (r ∷ rest) h zero zero lj lk e = refl
are-distinct (r ∷ rest) h zero (suc k) lj lk e =
    absurd (not-both (has_row r.identifier rest) (are_distinct rest)
    (has-row r.identifier rest k (omega (arith, lk)) (sym e)) h)
are-distinct (r ∷ rest) h (suc j) zero lj lk e =
    absurd (not-both (has_row r.identifier rest) (are_distinct rest) (has-row r.identifier rest j (omega (arith, lj)) e)
    h)
are-distinct (r ∷ rest) h (suc j) (suc k) lj lk e =
    ap suc (are-distinct rest (the-rest (has_row r.identifier rest) (are_distinct rest) h) j k (omega (arith, lj))
    (omega (arith, lk)) e)

pub names-distinct : Distinct name_table
unfolding has_row are_distinct
names-distinct = are-distinct name_table refl

-- ---- a longer table permits what a shorter one does

-- each row of the one is a row of the other
abbrev pub Includes : List Row → List Row → Type 0
Includes T U = (n : ℕ) → n < length T → (m : ℕ) × (m < length U) × (row_at U m ≡ row_at T n)

pub includes-front : (T more : List Row) → Includes T (T ++ more)
includes-front T more n below = (n, omega (arith, below, length-append T more), get_or_append_left T more _ n below)

-- an identifier that was found has a row
found-or-none : (T : List Row) (S : List ℕ → Type 0) (o : List ℕ) (xs : List Attribute) → All (IsPermitted T S) xs
    → (count_of o xs ≡ 0) ⊎ ((n : ℕ) × HasRow T n o)
found-or-none T S o [] h = inl refl
found-or-none T S o (x ∷ xs) h =
    at (has_identifier o x) refl (found-or-none T S o xs (All-tail (IsPermitted T S) x xs h))
  where
    at : (b : Bool) → has_identifier o x ≡ b → (count_of o xs ≡ 0) ⊎ ((n : ℕ) × HasRow T n o)
        → (count_of o (x ∷ xs) ≡ 0) ⊎ ((n : ℕ) × HasRow T n o)
    at true e k =
        let p = All-head (IsPermitted T S) x xs h in
        inr (
          p.number,
          record {
            below = p.has.below;
            same = p.has.same ∙
                (pointwise_decides Decides-eqb x.identifier o).0 e;
          },
        )
    at false e (inl none) = inl (rw e none)
    at false e (inr k) = inr k

pub longer-permits : (T U : List Row) (S : List ℕ → Type 0) (xs : List Attribute) → Includes T U → IsStrict T S xs
    → IsStrict U S xs
longer-permits T U S xs includes h =
    record { common = h.common; once = once; permitted = λ k d below. permitted _ (h.permitted k d below) } where
      once : (m : ℕ) → m < length U → count_of (row_at U m).identifier xs ≤ 1
      once m below = at (found-or-none T S (row_at U m).identifier xs h.permitted)
        where
          at : (count_of (row_at U m).identifier xs ≡ 0) ⊎ ((n : ℕ) × HasRow T n (row_at U m).identifier)
              → count_of (row_at U m).identifier xs ≤ 1
          at (inl none) = omega (arith, none)
          at (inr (n, has)) = subst (λ (o : List ℕ). count_of o xs ≤ 1) has.same (h.once n has.below)

      permitted : (a : Attribute) → IsPermitted T S a → IsPermitted U S a
      permitted a p =
          let m = includes p.number p.has.below in
          record {
            number = m.0;
            has = record { below = m.1; same = ap (λ (r : Row). r.identifier) m.2 ∙ p.has.same };
            string = p.string;
          }

pub name-permitted : (T U : List Row) (S : List ℕ → Type 0) (octets : List ℕ) → Includes T U
    → IsNameOf (IsStrict T S) octets → IsNameOf (IsStrict U S) octets
name-permitted T U S octets includes h = (h.0, h.1, longer-permits T U S _ includes h.2)

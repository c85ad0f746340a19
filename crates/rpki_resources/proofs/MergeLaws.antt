-- What two lists of blocks share, step by step.
use Rattle.std.proofs.Common.{◌≡◌, ◌≢◌, refl, ◌≤◌, ◌<◌, ◌⊎◌, ◌↔◌, inl, inr, ℕ, suc, List, [], ◌∷◌, ◌++◌, Option, Some}
use Rattle.std.proofs.Common.{None, Result, Ok, Err, sym, subst, append_assoc, arith}
use Rattle.std.proofs.lemmas.List.{append-nil}
use Rattle.std.specs.Prelude.{IfErr}
use Rattle.rpki_resources.specs.declared.block.Block.{Block}
use Rattle.rpki_resources.specs.Blocks.{IsIn, IsAmong, IsSubset, IsPast, AreCanonical, blocks_of, IsOverlap, AreShared}
use Rattle.rpki_resources.proofs.BlocksLaws.{among-past}

pub among-append : (n : ℕ) (xs ys : List Block) → IsAmong n (xs ++ ys) ↔ (IsAmong n xs ⊎ IsAmong n ys)
among-append n [] ys = (λ h. inr h, λ h. elim h [ inl a ↦ absurd a | inr a ↦ a ])
among-append n (x ∷ xs) ys =
    let k : IsAmong n (xs ++ ys) ↔ (IsAmong n xs ⊎ IsAmong n ys) = among-append n xs ys in (
      λ h. elim h [
        | inl a ↦ inl (inl a)
        | inr a ↦ elim (k.0 a) [ inl b ↦ inl (inr b) | inr b ↦ inr b ]
      ],
      λ h. elim h [
        | inl a ↦ elim a [ inl b ↦ inl b | inr b ↦ inr (k.1 (inl b)) ]
        | inr a ↦ inr (k.1 (inr a))
      ],
    )

-- what was found of both lists, and the rest of them
pub record Merging (one other found xs ys : List Block) : Type 0 where
  pub xs_are : AreCanonical xs
  pub ys_are : AreCanonical ys
  pub same : (n : ℕ) → (IsAmong n one × IsAmong n other) ↔ (IsAmong n found ⊎ (IsAmong n xs × IsAmong n ys))
  pub room : (ms : List Block) → AreCanonical ms → IsSubset ms xs → IsSubset ms ys → AreCanonical (found ++ ms)

pub at-start : (one other : List Block) → AreCanonical one → AreCanonical other → Merging one other [] one other
at-start one other h k = record {
  xs_are = h;
  ys_are = k;
  same = λ n. (λ a. inr a, λ a. elim a [ inl b ↦ absurd b | inr b ↦ b ]);
  room = λ ms c a b. c;
}

pub swapped : (one other found xs ys : List Block) → Merging one other found xs ys → Merging other one found ys xs
swapped one other found xs ys h = record {
  xs_are = h.ys_are;
  ys_are = h.xs_are;
  same = λ n. (
    λ a. elim ((h.same n).0 (a.1, a.0)) [ inl b ↦ inl b | inr b ↦ inr (b.1, b.0) ],
    λ a. elim a [
      | inl b ↦ (let k = (h.same n).1 (inl b) in (k.1, k.0))
      | inr b ↦
          (let k = (h.same n).1 (inr (b.1, b.0)) in (k.1, k.0))
    ],
  );
  room = λ ms c a b. h.room ms c b a;
}

pub overlap-swapped : (x y : Block) (o : Option Block) → IsOverlap x y o → IsOverlap y x o
overlap-swapped x y o h = record {
  numbers = λ n. (λ a. (let k = (h.numbers n).0 a in (k.1, k.0)), λ a. (h.numbers n).1 (a.1, a.0));
  canonical = h.canonical;
}

-- what is found in one block and goes before what is found after it
pub put-before : (x : Block) (later ms : List Block) (o : Option Block) → AreCanonical (x ∷ later)
    → ((n : ℕ) → IsAmong n (blocks_of o) → IsIn n x) → AreCanonical (blocks_of o) → AreCanonical ms
    → IsSubset ms later → AreCanonical (blocks_of o ++ ms)
put-before x later ms None c within h d sub = d
put-before x later ms (Some b) c within h d sub = (h.0, past ms d sub, d) where
  past : (ns : List Block) → AreCanonical ns → IsSubset ns later → IsPast b.high ns
  past [] e s = tt
  past (m ∷ ns) e s =
      let there : suc x.high < m.low = among-past x.high m.low later c.1 c.2 (s m.low (inl (omega arith, e.0))) in
      let top : IsIn b.high x = within b.high (inl (h.0, omega arith)) in
      omega (arith, there, top.1)

-- the first block of the one ends first: it is done with
module _ (one other found later others : List Block) (x y : Block) (o : Option Block)
    (m : Merging one other found (x ∷ later) (y ∷ others)) (overlap : IsOverlap x y o) (first : x.high ≤ y.high) where
  forth : (n : ℕ) → IsAmong n one × IsAmong n other
      → IsAmong n (found ++ blocks_of o) ⊎ (IsAmong n later × IsAmong n (y ∷ others))
  forth n a = elim ((m.same n).0 a) [
    | inl b ↦ inl ((among-append n found (blocks_of o)).1 (inl b))
    | inr b ↦ both b.0 b.1
  ] where
    both : IsAmong n (x ∷ later) → IsAmong n (y ∷ others)
        → IsAmong n (found ++ blocks_of o) ⊎ (IsAmong n later × IsAmong n (y ∷ others))
    both (inl p) (inl q) = inl ((among-append n found (blocks_of o)).1 (inr ((overlap.numbers n).1 (p, q))))
    both (inl p) (inr q) =
        let far : suc y.high < n = among-past y.high n others m.ys_are.1 m.ys_are.2 q in
        let no : ⊥ = omega (arith, far, p.1, first) in
        absurd no
    both (inr p) q = inr (p, q)

  back : (n : ℕ) → IsAmong n (found ++ blocks_of o) ⊎ (IsAmong n later × IsAmong n (y ∷ others))
      → IsAmong n one × IsAmong n other
  back n (inl a) = elim ((among-append n found (blocks_of o)).0 a) [
    | inl b ↦ (m.same n).1 (inl b)
    | inr b ↦ (let k = (overlap.numbers n).0 b in (m.same n).1 (inr (inl k.0, inl k.1)))
  ]
  back n (inr a) = (m.same n).1 (inr (inr a.0, a.1))

  fits : (ms : List Block) → AreCanonical ms → IsSubset ms later → IsSubset ms (y ∷ others)
      → AreCanonical ((found ++ blocks_of o) ++ ms)
  fits ms c a b =
      let both = put-before x later ms o m.xs_are (λ n k. ((overlap.numbers n).0 k).0) overlap.canonical c a in
      let in_xs : IsSubset (blocks_of o ++ ms) (x ∷ later) = λ n k. elim ((among-append n (blocks_of o) ms).0 k) [
        | inl h ↦ inl ((overlap.numbers n).0 h).0
        | inr h ↦ inr (a n h)
      ] in
      let in_ys : IsSubset (blocks_of o ++ ms) (y ∷ others) = λ n k. elim ((among-append n (blocks_of o) ms).0 k) [
        | inl h ↦ inl ((overlap.numbers n).0 h).1
        | inr h ↦ b n h
      ] in
      subst AreCanonical (sym (append_assoc found (blocks_of o) ms)) (m.room (blocks_of o ++ ms) both in_xs in_ys)

  pub one-done : Merging one other (found ++ blocks_of o) later (y ∷ others)
  one-done = record { xs_are = m.xs_are.2; ys_are = m.ys_are; same = λ n. (forth n, back n); room = fits }

pub other-done : (one other found later others : List Block) (x y : Block) (o : Option Block)
    → Merging one other found (x ∷ later) (y ∷ others) → IsOverlap x y o → y.high ≤ x.high
    → Merging one other (found ++ blocks_of o) (x ∷ later) others
other-done one other found later others x y o m overlap first =
    swapped other one (found ++ blocks_of o) others (x ∷ later)
    (one-done other one found others later y x o (swapped one other found (x ∷ later) (y ∷ others) m)
    (overlap-swapped x y o overlap) first)

-- a list is gone
pub all-shared : (one other found xs ys : List Block) → Merging one other found xs ys → xs ≡ []
    → AreShared one other found
all-shared one other found xs ys m end = record {
  numbers = λ n. (
    λ a. (m.same n).1 (inl a),
    λ a. elim ((m.same n).0 a) [
      | inl b ↦ b
      | inr b ↦ absurd (subst (λ (zs : List Block). IsAmong n zs) end b.0)
    ],
  );
  canonical = subst AreCanonical (append-nil found) (m.room [] tt (λ n a. absurd a) (λ n a. absurd a));
}

pub all-shared-other : (one other found xs ys : List Block) → Merging one other found xs ys → ys ≡ []
    → AreShared one other found
all-shared-other one other found xs ys m end =
    let k = all-shared other one found ys xs (swapped one other found xs ys m) end in
    record {
      numbers = λ n. (λ a. (let b = (k.numbers n).0 a in (b.1, b.0)), λ a. (k.numbers n).1 (a.1, a.0));
      canonical = k.canonical;
    }

-- ---- where something is found

-- what holds whatever the error is
pub if-error : {T E Q : Type 0} (r : Result T E) → Q → IfErr r (λ e. Q)
if-error (Ok x) q = tt
if-error (Err e) q = q

pub some-among : (n : ℕ) (v : List Block) → IsAmong n v → v ≢ []
some-among n v a e = subst (IsAmong n) e a

pub lowest-of : (o : Option Block) → AreCanonical (blocks_of o) → o ≢ None → (n : ℕ) × IsAmong n (blocks_of o)
lowest-of None c not = absurd (not refl)
lowest-of (Some b) c not = (b.low, inl (omega arith, c.0))

pub some-shared : (one other found xs ys later others : List Block) (x y : Block) (o : Option Block)
    → xs ≡ x ∷ later → ys ≡ y ∷ others → Merging one other found xs ys → IsOverlap x y o → o ≢ None
    → (v : List Block) → AreShared one other v → v ≢ []
some-shared one other found xs ys later others x y o ex ey m overlap not v are =
    let some = lowest-of o overlap.canonical not in
    let both = (overlap.numbers some.0).0 some.1 in
    let left : IsAmong some.0 xs × IsAmong some.0 ys =
    (subst (IsAmong some.0) (sym ex) (inl both.0), subst (IsAmong some.0) (sym ey) (inl both.1)) in
    some-among some.0 v ((are.numbers some.0).1 ((m.same some.0).1 (inr left)))

-- ---- the same of lists that begin so

module _ (one other found next xs ys later others : List Block) (x y : Block) (o : Option Block) (ex : xs ≡ x ∷ later)
    (ey : ys ≡ y ∷ others) (ef : next ≡ found ++ blocks_of o)
    (m : Merging one other found xs ys) (overlap : IsOverlap x y o) where
  both-begin : Merging one other found (x ∷ later) (y ∷ others)
  both-begin = subst (λ (zs : List Block). Merging one other found (x ∷ later) zs) ey
      (subst (λ (zs : List Block). Merging one other found zs ys) ex m)

  pub first-done : x.high ≤ y.high → Merging one other next later ys
  first-done le =
      let k = one-done one other found later others x y o both-begin overlap le in
      subst (λ (zs : List Block). Merging one other zs later ys) (sym ef)
      (subst (λ (zs : List Block). Merging one other (found ++ blocks_of o) later zs) (sym ey) k)

  pub second-done : y.high ≤ x.high → Merging one other next xs others
  second-done le =
      let k = other-done one other found later others x y o both-begin overlap le in
      subst (λ (zs : List Block). Merging one other zs xs others) (sym ef)
      (subst (λ (zs : List Block). Merging one other (found ++ blocks_of o) zs others) (sym ex) k)

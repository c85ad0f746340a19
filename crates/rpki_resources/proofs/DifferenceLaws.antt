-- What one list of blocks has and another lacks, step by step.
use Rattle.std.proofs.Common.{◌≡◌, ◌≢◌, ◌≤◌, ◌<◌, ◌⊎◌, ◌↔◌, inl, inr, ℕ, suc, List, [], ◌∷◌, ◌++◌, ◌+◌, Option, Some}
use Rattle.std.proofs.Common.{None, sym, subst, append_assoc, arith}
use Rattle.std.proofs.lemmas.List.{append-nil}
use Rattle.rpki_resources.specs.declared.block.Block.{Block}
use Rattle.rpki_resources.specs.Blocks.{IsIn, IsAmong, IsBelow, AreCanonical, blocks_of, IsGap, AreLacking}
use Rattle.rpki_resources.proofs.BlocksLaws.{among-past, split}
use Rattle.rpki_resources.proofs.MergeLaws.{among-append, put-before, some-among, lowest-of}

-- a number of the one, from this one on, that the other lacks
abbrev pub Lacks : ℕ → List Block → List Block → ℕ → Type 0
Lacks from xs ys n = IsAmong n xs × (from ≤ n) × (IsAmong n ys → ⊥)

-- what was found, and the rest of both lists from a number on
pub record Lacking (one other found xs ys : List Block) (from : ℕ) : Type 0 where
  pub xs_are : AreCanonical xs
  pub ys_are : AreCanonical ys
  pub above : (n : ℕ) → IsAmong n ys → from ≤ n
  pub same : (n : ℕ) → (IsAmong n one × (IsAmong n other → ⊥)) ↔ (IsAmong n found ⊎ Lacks from xs ys n)
  pub room : (ms : List Block) → AreCanonical ms → ((n : ℕ) → IsAmong n ms → Lacks from xs ys n)
      → AreCanonical (found ++ ms)

pub at-start : (one other : List Block) → AreCanonical one → AreCanonical other → Lacking one other [] one other 0
at-start one other h k = record {
  xs_are = h;
  ys_are = k;
  above = λ n a. omega arith;
  same = λ n. (λ a. inr (a.0, omega arith, a.1), λ a. elim a [ inl b ↦ absurd b | inr b ↦ (b.0, b.2) ]);
  room = λ ms c a. c;
}

-- numbers below the first block are not among the blocks
below-lacks : (n : ℕ) (ys : List Block) → AreCanonical ys → IsBelow n ys → IsAmong n ys → ⊥
below-lacks n [] c b a = a
below-lacks n (y ∷ ys) c b (inl i) = omega (arith, b, i.0)
below-lacks n (y ∷ ys) c b (inr r) = let far : suc y.high < n =
    among-past y.high n ys c.1 c.2 r in omega (arith, far, b, c.0)

module _ (one other found xs ys : List Block) (from : ℕ) (m : Lacking one other found xs ys from) where
  -- the gap that was found, and the rest from another number on, is what remained
  module _ (x : Block) (later : List Block) (ex : xs ≡ x ∷ later) (o : Option Block) (gap : IsGap x from ys o) where
    of-gap : (n : ℕ) → IsAmong n (blocks_of o) → Lacks from xs ys n
    of-gap n h =
        let k = (gap.numbers n).0 h in
        (subst (IsAmong n) (sym ex) (inl k.0), k.1, below-lacks n ys m.ys_are k.2)

    pub some-lacking : o ≢ None → (v : List Block) → AreLacking one other v → v ≢ []
    some-lacking not v are =
        let some = lowest-of o gap.canonical not in
        some-among some.0 v ((are.numbers some.0).1 ((m.same some.0).1 (inr (of-gap some.0 some.1))))

    module _ (vs ws : List Block) (start : ℕ)
        (forth : (n : ℕ) → Lacks from xs ys n → IsAmong n (blocks_of o) ⊎ Lacks start vs ws n)
        (back : (n : ℕ) → Lacks start vs ws n → Lacks from xs ys n)
        (before : (ms : List Block) → AreCanonical ms → ((n : ℕ) → IsAmong n ms → Lacks start vs ws n)
        → AreCanonical (blocks_of o ++ ms)) where
      same-then : (n : ℕ) → (IsAmong n one × (IsAmong n other → ⊥))
          ↔ (IsAmong n (found ++ blocks_of o) ⊎ Lacks start vs ws n)
      same-then n = (
        λ a. elim ((m.same n).0 a) [
          | inl b ↦ inl ((among-append n found (blocks_of o)).1 (inl b))
          | inr b ↦ elim (forth n b) [
            | inl c ↦ inl ((among-append n found (blocks_of o)).1 (inr c))
            | inr c ↦ inr c
          ]
        ],
        λ a. elim a [
          | inl b ↦ elim ((among-append n found (blocks_of o)).0 b) [
            | inl c ↦ (m.same n).1 (inl c)
            | inr c ↦ (m.same n).1 (inr (of-gap n c))
          ]
          | inr b ↦ (m.same n).1 (inr (back n b))
        ],
      )

      room-then : (ms : List Block) → AreCanonical ms → ((n : ℕ) → IsAmong n ms → Lacks start vs ws n)
          → AreCanonical ((found ++ blocks_of o) ++ ms)
      room-then ms c a =
          let all : (n : ℕ) → IsAmong n (blocks_of o ++ ms)
          → Lacks from xs ys n = λ n h. elim ((among-append n (blocks_of o) ms).0 h) [
            | inl k ↦ of-gap n k
            | inr k ↦ back n (a n k)
          ] in
          subst AreCanonical (sym (append_assoc found (blocks_of o) ms))
          (m.room (blocks_of o ++ ms) (before ms c a) all)

    -- the block of the one is done with: the other has none, or one that ends after it
    module _ (done : (n : ℕ) → IsIn n x → (IsAmong n ys → ⊥) → IsBelow n ys) where
      block-forth : (n : ℕ) → Lacks from xs ys n → IsAmong n (blocks_of o) ⊎ Lacks from later ys n
      block-forth n h = step (subst (IsAmong n) ex h.0) where
        step : IsAmong n (x ∷ later) → IsAmong n (blocks_of o) ⊎ Lacks from later ys n
        step (inl i) = inl ((gap.numbers n).1 (i, h.1, done n i h.2))
        step (inr r) = inr (r, h.1, h.2)

      block-back : (n : ℕ) → Lacks from later ys n → Lacks from xs ys n
      block-back n h = (subst (IsAmong n) (sym ex) (inr h.0), h.1, h.2)

      block-before : (ms : List Block) → AreCanonical ms → ((n : ℕ) → IsAmong n ms → Lacks from later ys n)
          → AreCanonical (blocks_of o ++ ms)
      block-before ms c a = put-before x later ms o (subst AreCanonical ex m.xs_are) (λ n k. ((gap.numbers n).0 k).0)
          gap.canonical c (λ n k. (a n k).0)

      pub block-done : Lacking one other (found ++ blocks_of o) later ys from
      block-done =
          let c : AreCanonical (x ∷ later) = subst AreCanonical ex m.xs_are in
          record {
            xs_are = c.2;
            ys_are = m.ys_are;
            above = m.above;
            same = same-then later ys from block-forth block-back block-before;
            room = room-then later ys from block-forth block-back block-before;
          }

    -- the block of the other is done with: it ends first
    module _ (y : Block) (others : List Block) (ey : ys ≡ y ∷ others) (first : y.high < x.high) where
      ys_are : AreCanonical (y ∷ others)
      ys_are = subst AreCanonical ey m.ys_are

      lowest : from ≤ y.low
      lowest = m.above y.low (subst (IsAmong y.low) (sym ey) (inl (omega arith, ys_are.0)))

      other-forth : (n : ℕ) → Lacks from xs ys n → IsAmong n (blocks_of o) ⊎ Lacks (y.high + 1) xs others n
      other-forth n h = step (subst (IsAmong n) ex h.0) (split n y.low) (split n (y.high + 1)) where
        outside : IsAmong n (y ∷ others) → ⊥
        outside k = h.2 (subst (IsAmong n) (sym ey) k)

        step : IsAmong n (x ∷ later) → (n < y.low) ⊎ (y.low ≤ n) → (n < y.high + 1) ⊎ (y.high + 1 ≤ n)
            → IsAmong n (blocks_of o) ⊎ Lacks (y.high + 1) xs others n
        step k p (inr high) = inr (h.0, high, λ l. outside (inr l))
        step k (inr low) (inl high) = absurd (outside (inl (low, omega (arith, high))))
        step (inl i) (inl low) (inl high) = inl ((gap.numbers n).1 (i, h.1, subst (IsBelow n) (sym ey) low))
        step (inr r) (inl low) (inl high) =
            let c : AreCanonical (x ∷ later) = subst AreCanonical ex m.xs_are in
            let far : suc x.high < n = among-past x.high n later c.1 c.2 r in
            let no : ⊥ = omega (arith, far, high, first) in
            absurd no

      other-back : (n : ℕ) → Lacks (y.high + 1) xs others n → Lacks from xs ys n
      other-back n h = (h.0, omega (arith, h.1, lowest, ys_are.0), λ k. behind (subst (IsAmong n) ey k)) where
        behind : IsAmong n (y ∷ others) → ⊥
        behind (inl i) = omega (arith, i.1, h.1)
        behind (inr r) = h.2 r

      other-before : (ms : List Block) → AreCanonical ms → ((n : ℕ) → IsAmong n ms → Lacks (y.high + 1) xs others n)
          → AreCanonical (blocks_of o ++ ms)
      other-before ms c a = past o (λ n k. (subst (IsBelow n) ey ((gap.numbers n).0 k).2)) gap.canonical ms c a where
        past : (p : Option Block) → ((n : ℕ) → IsAmong n (blocks_of p) → n < y.low) → AreCanonical (blocks_of p)
            → (ns : List Block) → AreCanonical ns
            → ((n : ℕ) → IsAmong n ns → Lacks (y.high + 1) xs others n) → AreCanonical (blocks_of p ++ ns)
        past None low d ns e b = e
        past (Some g) low d [] e b = d
        past (Some g) low d (q ∷ ns) e b =
            let under : g.high < y.low = low g.high (inl (d.0, omega arith)) in
            let over : y.high + 1 ≤ q.low = (b q.low (inl (omega arith, e.0))).1 in
            (d.0, omega (arith, under, over, ys_are.0), e)

      pub other-done : Lacking one other (found ++ blocks_of o) xs others (y.high + 1)
      other-done = record {
        xs_are = m.xs_are;
        ys_are = ys_are.2;
        above = λ n k. let far : suc y.high < n = among-past y.high n others ys_are.1 ys_are.2 k in omega (arith, far);
        same = same-then xs others (y.high + 1) other-forth other-back other-before;
        room = room-then xs others (y.high + 1) other-forth other-back other-before;
      }

  -- the one list is gone
  pub all-lacking : xs ≡ [] → AreLacking one other found
  all-lacking end = record {
    numbers = λ n. (
      λ a. (m.same n).1 (inl a),
      λ a. elim ((m.same n).0 a) [
        | inl b ↦ b
        | inr b ↦ absurd (subst (IsAmong n) end b.0)
      ],
    );
    canonical = subst AreCanonical (append-nil found) (m.room [] tt (λ n a. absurd a));
  }

-- where the block of the other ends after that of the one, or there is none
pub done-behind : (x y : Block) (ys others : List Block) → ys ≡ y ∷ others → x.high ≤ y.high → (n : ℕ) → IsIn n x
    → (IsAmong n ys → ⊥) → IsBelow n ys
done-behind x y ys others e le n i not = subst (IsBelow n) (sym e) (step (split n y.low)) where
  step : (n < y.low) ⊎ (y.low ≤ n) → n < y.low
  step (inl lt) = lt
  step (inr ge) = absurd (not (subst (IsAmong n) (sym e) (inl (ge, omega (arith, i.1, le)))))

pub done-none : (x : Block) (ys : List Block) → ys ≡ [] → (n : ℕ) → IsIn n x → (IsAmong n ys → ⊥) → IsBelow n ys
done-none x ys e n i not = subst (IsBelow n) (sym e) tt

-- the same of lists that were extended
pub extended : (one other found next xs ys : List Block) (from : ℕ) (o : Option Block) → next ≡ found ++ blocks_of o
    → Lacking one other (found ++ blocks_of o) xs ys from → Lacking one other next xs ys from
extended one other found next xs ys from o e h = subst (λ (zs : List Block). Lacking one other zs xs ys from) (sym e) h

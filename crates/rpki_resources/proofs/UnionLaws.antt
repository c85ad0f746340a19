-- Two lists of blocks together, step by step.
use Rattle.std.proofs.Common.{◌≡◌, ◌≢◌, ◌≤◌, ◌<◌, ◌⊎◌, ◌↔◌, inl, inr, ℕ, suc, List, [], ◌∷◌, ◌++◌, ◌+◌, length, Option}
use Rattle.std.proofs.Common.{Some, None, sym, ap, subst, arith}
use Rattle.std.proofs.lemmas.List.{append-nil}
use Rattle.rpki_resources.specs.declared.block.Block.{Block}
use Rattle.rpki_resources.specs.Blocks.{IsIn, IsAmong, IsPast, AreCanonical, blocks_of, AreUnited}
use Rattle.rpki_resources.specs.Union.{IsFrom, IsNext, MayGrow, IsGrown}
use Rattle.rpki_resources.proofs.BlocksLaws.{split, block}
use Rattle.rpki_resources.proofs.MergeLaws.{among-append, some-among}

-- ---- canonical form at the end of a list

-- the last block, not ending first, may be another that begins where it does
pub longer : (js : List Block) (low high top : ℕ) → high ≤ top → AreCanonical (js ++ (block low high ∷ []))
    → AreCanonical (js ++ (block low top ∷ []))
longer [] low high top le c = (omega (arith, le, c.0), tt, tt)
longer (j ∷ js) low high top le c = (c.0, past js c.1, longer js low high top le c.2) where
  past : (ks : List Block) → IsPast j.high (ks ++ (block low high ∷ [])) → IsPast j.high (ks ++ (block low top ∷ []))
  past [] h = h
  past (k ∷ ks) h = h

-- a block past the last may follow it
pub followed : (js : List Block) (o b : Block) → suc o.high < b.low → b.low ≤ b.high → AreCanonical (js ++ (o ∷ []))
    → AreCanonical ((js ++ (o ∷ [])) ++ (b ∷ []))
followed [] o b far some c = (c.0, far, (some, tt, tt))
followed (j ∷ js) o b far some c = (c.0, past js c.1, followed js o b far some c.2) where
  past : (ks : List Block) → IsPast j.high (ks ++ (o ∷ [])) → IsPast j.high ((ks ++ (o ∷ [])) ++ (b ∷ []))
  past [] h = h
  past (k ∷ ks) h = h

-- ---- a block grows

-- no block of a list is empty, and so the last isn't
last-some : (js : List Block) (b : Block) → AreCanonical (js ++ (b ∷ [])) → b.low ≤ b.high
last-some [] b c = c.0
last-some (j ∷ js) b c = last-some js b c.2

-- ---- what a block grows to

pub closes : (before b : Block) → MayGrow before b → suc before.high < b.low → IsGrown before b (Some before) b
closes before b may far = record {
  numbers = λ n. (
    λ h. elim h [ inl a ↦ elim a [ inl i ↦ inl i | inr r ↦ absurd r ] | inr a ↦ inr a ],
    λ h. elim h [ inl a ↦ inl (inl a) | inr a ↦ inr a ],
  );
  low = omega arith;
  canonical = λ js c. followed js before b far may.some c;
}

pub grows : (before b : Block) (top : ℕ) → MayGrow before b → b.low ≤ suc before.high → before.high ≤ top → b.high ≤ top
    → (top ≡ before.high) ⊎ (top ≡ b.high)
    → IsGrown before b None (block before.low top)
grows before b top may near le ge is = record {
  numbers = λ n. (
    λ h. elim h [ inl a ↦ absurd a | inr a ↦ inside n a (split n b.low) (split before.high n) is ],
    λ h. elim h [
      | inl a ↦ inr (a.0, omega (arith, a.1, le))
      | inr a ↦ inr
          (omega (arith, may.order, a.0), omega (arith, a.1, ge))
    ],
  );
  low = may.order;
  canonical = λ js c. subst (λ (ks : List Block). AreCanonical (ks ++ (block before.low top ∷ [])))
      (sym (append-nil js)) (longer js before.low before.high top le c);
} where
  inside : (n : ℕ) → IsIn n (block before.low top) → (n < b.low) ⊎ (b.low ≤ n) → (before.high < n) ⊎ (n ≤ before.high)
      → (top ≡ before.high) ⊎ (top ≡ b.high) → IsIn n before ⊎ IsIn n b
  inside n a q (inr low) t = inl (a.0, low)
  inside n a (inl under) (inl over) t = let no : ⊥ = omega (arith, under, over, near) in absurd no
  inside n a (inr from) (inl over) (inl t) = let no : ⊥ = omega (arith, over, a.1, t) in absurd no
  inside n a (inr from) (inl over) (inr t) = inr (from, omega (arith, a.1, t))

-- ---- what was found, the open block, and the rest of both lists

pub record Uniting (one other found : List Block) (before : Block) (xs ys : List Block) : Type 0 where
  pub xs_are : AreCanonical xs
  pub ys_are : AreCanonical ys
  pub same : (n : ℕ) → (IsAmong n one ⊎ IsAmong n other)
      ↔ ((IsAmong n found ⊎ IsIn n before) ⊎ (IsAmong n xs ⊎ IsAmong n ys))
  pub canonical : AreCanonical (found ++ (before ∷ []))
  pub above : IsFrom before.low xs × IsFrom before.low ys

-- the first block of lists, and the others
first-some : (xs ys later others : List Block) (b : Block) → AreCanonical xs → AreCanonical ys
    → IsNext xs ys b later others → b.low ≤ b.high
first-some xs ys later others b c d h = elim h.taken [
  | inl t ↦ (let k : AreCanonical (b ∷ later) = subst AreCanonical t.0 c in k.0)
  | inr t ↦ (let k : AreCanonical (b ∷ others) = subst AreCanonical t.0 d in k.0)
]

rest-canonical : (xs ys later others : List Block) (b : Block) → AreCanonical xs → AreCanonical ys
    → IsNext xs ys b later others → AreCanonical later × AreCanonical others
rest-canonical xs ys later others b c d h = elim h.taken [
  | inl t ↦ (let k : AreCanonical (b ∷ later) = subst AreCanonical t.0 c in (k.2, subst AreCanonical t.1 d))
  | inr t ↦ (let k : AreCanonical (b ∷ others) = subst AreCanonical t.0 d in (subst AreCanonical t.1 c, k.2))
]

past-from : (low high : ℕ) (bs : List Block) → low ≤ high → IsPast high bs → IsFrom low bs
past-from low high [] le p = tt
past-from low high (b ∷ bs) le p = omega (arith, le, p)

lower : (low high : ℕ) (bs : List Block) → low ≤ high → IsFrom high bs → IsFrom low bs
lower low high [] le h = tt
lower low high (b ∷ bs) le h = omega (arith, le, h)

rest-from : (xs ys later others : List Block) (b : Block) → AreCanonical xs → AreCanonical ys
    → IsNext xs ys b later others → IsFrom b.low later × IsFrom b.low others
rest-from xs ys later others b c d h = elim h.taken [
  | inl t ↦ (let k : AreCanonical (b ∷ later) =
      subst AreCanonical t.0 c in (past-from b.low b.high later k.0 k.1, subst (IsFrom b.low) t.1 h.first.1))
  | inr t ↦ (let k : AreCanonical (b ∷ others) =
      subst AreCanonical t.0 d in (subst (IsFrom b.low) t.1 h.first.0, past-from b.low b.high others k.0 k.1))
]

rest-numbers : (xs ys later others : List Block) (b : Block) → IsNext xs ys b later others → (n : ℕ)
    → (IsAmong n xs ⊎ IsAmong n ys) ↔ (IsIn n b ⊎ (IsAmong n later ⊎ IsAmong n others))
rest-numbers xs ys later others b h n = elim h.taken [ inl t ↦ of_one t.0 t.1 | inr t ↦ of_other t.0 t.1 ] where
  of_one : xs ≡ b ∷ later → ys ≡ others → (IsAmong n xs ⊎ IsAmong n ys)
      ↔ (IsIn n b ⊎ (IsAmong n later ⊎ IsAmong n others))
  of_one ex ey = subst (λ (zs : List Block). (IsAmong n zs ⊎ IsAmong n ys)
      ↔ (IsIn n b ⊎ (IsAmong n later ⊎ IsAmong n others))) (sym ex)
      (subst (λ (zs : List Block). (IsAmong n (b ∷ later) ⊎ IsAmong n zs)
      ↔ (IsIn n b ⊎ (IsAmong n later ⊎ IsAmong n others))) (sym ey) (
        λ a. elim a [ inl p ↦ elim p [ inl q ↦ inl q | inr q ↦ inr (inl q) ] | inr p ↦ inr (inr p) ],
        λ a. elim a [ inl p ↦ inl (inl p) | inr p ↦ elim p [ inl q ↦ inl (inr q) | inr q ↦ inr q ] ],
      ))

  of_other : ys ≡ b ∷ others → xs ≡ later → (IsAmong n xs ⊎ IsAmong n ys)
      ↔ (IsIn n b ⊎ (IsAmong n later ⊎ IsAmong n others))
  of_other ey ex = subst (λ (zs : List Block). (IsAmong n xs ⊎ IsAmong n zs)
      ↔ (IsIn n b ⊎ (IsAmong n later ⊎ IsAmong n others))) (sym ey)
      (subst (λ (zs : List Block). (IsAmong n zs ⊎ IsAmong n (b ∷ others))
      ↔ (IsIn n b ⊎ (IsAmong n later ⊎ IsAmong n others))) (sym ex) (
        λ a. elim a [ inl p ↦ inr (inl p) | inr p ↦ elim p [ inl q ↦ inl q | inr q ↦ inr (inr q) ] ],
        λ a. elim a [ inl p ↦ inr (inl p) | inr p ↦ elim p [ inl q ↦ inl q | inr q ↦ inr (inr q) ] ],
      ))

shorter-by : (xs ys later others : List Block) (b : Block) → IsNext xs ys b later others
    → suc (length later + length others) ≡ length xs + length ys
shorter-by xs ys later others b h = elim h.taken [
  | inl t ↦ omega (arith, ap length t.0, ap length t.1)
  | inr t ↦ omega (arith, ap length t.0, ap length t.1)
]

pub next-shorter : (xs ys later others : List Block) (b : Block) → IsNext xs ys b later others
    → length later + length others < length xs + length ys
next-shorter xs ys later others b h = omega (arith, shorter-by xs ys later others b h)

pub united-start : (one other later others found : List Block) (b : Block) → AreCanonical one → AreCanonical other
    → IsNext one other b later others → found ≡ [] → Uniting one other found b later others
united-start one other later others found b c d h e =
    let rest = rest-canonical one other later others b c d h in
    subst (λ (zs : List Block). Uniting one other zs b later others) (sym e) (record {
      xs_are = rest.0;
      ys_are = rest.1;
      same = λ n. (
        λ a. elim ((rest-numbers one other later others b h n).0 a) [ inl p ↦ inl (inr p) | inr p ↦ inr p ],
        λ a. (rest-numbers one other later others b h n).1
            (elim a [ inl p ↦ elim p [ inl q ↦ absurd q | inr q ↦ inl q ] | inr p ↦ inr p ]),
      );
      canonical = (first-some one other later others b c d h, tt, tt);
      above = rest-from one other later others b c d h;
    })

module _ (one other found xs ys : List Block) (before : Block) (m : Uniting one other found before xs ys) where
  module _ (b : Block) (later others : List Block) (h : IsNext xs ys b later others) where
    pub may-grow : MayGrow before b
    may-grow = record {
      not_empty = last-some found before m.canonical;
      order = elim h.taken [
        | inl t ↦ subst (IsFrom before.low) t.0 m.above.0
        | inr t ↦ subst (IsFrom before.low) t.0
            m.above.1
      ];
      some = first-some xs ys later others b m.xs_are m.ys_are h;
    }

    pub united-step : (closed : Option Block) (last : Block) (next : List Block) → next ≡ found ++ blocks_of closed
        → IsGrown before b closed last → Uniting one other next last later others
    united-step closed last next e g =
        let rest = rest-canonical xs ys later others b m.xs_are m.ys_are h in
        let from = rest-from xs ys later others b m.xs_are m.ys_are h in
        subst (λ (zs : List Block). Uniting one other zs last later others) (sym e) (record {
          xs_are = rest.0;
          ys_are = rest.1;
          same = λ n. (λ a. forth n ((m.same n).0 a), λ a. (m.same n).1 (back n a));
          canonical = g.canonical found m.canonical;
          above = (lower last.low b.low later g.low from.0, lower last.low b.low others g.low from.1);
        }) where
          placed : (n : ℕ) → IsIn n before ⊎ IsIn n b
              → (IsAmong n (found ++ blocks_of closed) ⊎ IsIn n last) ⊎ (IsAmong n later ⊎ IsAmong n others)
          placed n a = elim ((g.numbers n).1 a)
              [ inl p ↦ inl (inl ((among-append n found (blocks_of closed)).1 (inr p))) | inr p ↦ inl (inr p) ]

          forth : (n : ℕ) → (IsAmong n found ⊎ IsIn n before) ⊎ (IsAmong n xs ⊎ IsAmong n ys)
              → (IsAmong n (found ++ blocks_of closed) ⊎ IsIn n last) ⊎ (IsAmong n later ⊎ IsAmong n others)
          forth n (inl (inl a)) = inl (inl ((among-append n found (blocks_of closed)).1 (inl a)))
          forth n (inl (inr a)) = placed n (inl a)
          forth n (inr a) = elim ((rest-numbers xs ys later others b h n).0 a)
              [ inl p ↦ placed n (inr p) | inr p ↦ inr p ]

          taken : (n : ℕ) → IsIn n before ⊎ IsIn n b → (IsAmong n found ⊎ IsIn n before) ⊎ (IsAmong n xs ⊎ IsAmong n ys)
          taken n (inl a) = inl (inr a)
          taken n (inr a) = inr ((rest-numbers xs ys later others b h n).1 (inl a))

          back : (n : ℕ) → (IsAmong n (found ++ blocks_of closed) ⊎ IsIn n last) ⊎ (IsAmong n later ⊎ IsAmong n others)
              → (IsAmong n found ⊎ IsIn n before) ⊎ (IsAmong n xs ⊎ IsAmong n ys)
          back n (inl (inl a)) = elim ((among-append n found (blocks_of closed)).0 a)
              [ inl p ↦ inl (inl p) | inr p ↦ taken n ((g.numbers n).0 (inl p)) ]
          back n (inl (inr a)) = taken n ((g.numbers n).0 (inr a))
          back n (inr a) = inr ((rest-numbers xs ys later others b h n).1 (inr a))

  pub some-united : (v : List Block) → AreUnited one other v → v ≢ []
  some-united v are =
      let some : IsIn before.low before = (omega arith, last-some found before m.canonical) in
      some-among before.low v ((are.numbers before.low).1 ((m.same before.low).1 (inl (inr some))))

  pub all-united : (next : List Block) → next ≡ found ++ (before ∷ []) → xs ≡ [] → ys ≡ [] → AreUnited one other next
  all-united next e ex ey = subst (AreUnited one other) (sym e) (record {
    numbers = λ n. (
      λ a. (m.same n).1 (elim ((among-append n found (before ∷ [])).0 a)
          [ inl p ↦ inl (inl p) | inr p ↦ elim p [ inl q ↦ inl (inr q) | inr q ↦ absurd q ] ]),
      λ a. ends n ((m.same n).0 a),
    );
    canonical = m.canonical;
  }) where
    ends : (n : ℕ) → (IsAmong n found ⊎ IsIn n before) ⊎ (IsAmong n xs ⊎ IsAmong n ys)
        → IsAmong n (found ++ (before ∷ []))
    ends n (inl (inl a)) = (among-append n found (before ∷ [])).1 (inl a)
    ends n (inl (inr a)) = (among-append n found (before ∷ [])).1 (inr (inl a))
    ends n (inr (inl a)) = absurd (subst (IsAmong n) ex a)
    ends n (inr (inr a)) = absurd (subst (IsAmong n) ey a)

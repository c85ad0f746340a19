-- Sets of numbers, as lists of blocks.
use Rattle.std.proofs.Common.{◌≡◌, ◌≤◌, ◌<◌, ◌⊎◌, ◌↔◌, ℕ, zero, suc, List, [], ◌∷◌, inl, inr, refl, sym, ap, ◌∙◌, subst}
use Rattle.std.proofs.Common.{length, arith, ◌++◌}
use Rattle.rpki_resources.specs.declared.block.Block.{Block}
use Rattle.rpki_resources.specs.Blocks.{IsAmong, IsSubset, IsPast, AreCanonical}

-- numbers of blocks that begin past a number are past it
pub among-past : (h n : ℕ) (bs : List Block) → IsPast h bs → AreCanonical bs → IsAmong n bs → suc h < n
among-past h n [] p c a = absurd a
among-past h n (b ∷ bs) p c (inl a) = omega arith
among-past h n (b ∷ bs) p c (inr a) =
    let k : suc b.high < n = among-past b.high n bs c.1 c.2 a in omega arith

-- no number of blocks is below the first
pub among-from : (n : ℕ) (b : Block) (bs : List Block) → AreCanonical (b ∷ bs) → IsAmong n (b ∷ bs) → b.low ≤ n
among-from n b bs c (inl a) = a.0
among-from n b bs c (inr a) =
    let k : suc b.high < n = among-past b.high n bs c.1 c.2 a in omega arith

-- an outer block that ends before the first inner one has no part in it
pub drop-outer : (a b : Block) (ws bs : List Block) → a.high < b.low → AreCanonical (b ∷ bs)
    → IsSubset (b ∷ bs) (a ∷ ws) ↔ IsSubset (b ∷ bs) ws
drop-outer a b ws bs h c = (
  λ f n m.
      let from : b.low ≤ n = among-from n b bs c m in
      elim (f n m) [ inl i ↦ absurd (omega arith) | inr r ↦ r ],
  λ f n m. inr (f n m),
)

-- an inner block that an outer one holds needs no other
pub drop-inner : (a b : Block) (ws bs : List Block) → a.low ≤ b.low → b.high ≤ a.high
    → IsSubset (b ∷ bs) (a ∷ ws) ↔ IsSubset bs (a ∷ ws)
drop-inner a b ws bs low high = (
  λ f n m. f n (inr m),
  λ f n m. elim m [ inl i ↦ inl (omega arith, omega arith) | inr r ↦ f n r ],
)

-- an inner block that begins before the first outer one isn't in it
pub begins-before : (a b : Block) (ws bs : List Block) → b.low < a.low → AreCanonical (a ∷ ws) → AreCanonical (b ∷ bs)
    → IsSubset (b ∷ bs) (a ∷ ws) → ⊥
begins-before a b ws bs h ca cb f =
    let from : a.low ≤ b.low = among-from b.low a ws ca (f b.low (inl (omega arith, cb.0))) in
    omega arith

-- nor one that goes on after it, where it begins in it
pub ends-behind : (a b : Block) (ws bs : List Block) → b.low ≤ a.high → a.high < b.high → AreCanonical (a ∷ ws)
    → IsSubset (b ∷ bs) (a ∷ ws) → ⊥
ends-behind a b ws bs low high ca f =
    elim (f (suc a.high) (inl (omega arith, omega arith))) [
      | inl i ↦ omega arith
      | inr r ↦
          let past : suc a.high < suc a.high = among-past a.high (suc a.high) ws ca.1 ca.2 r in
          omega arith
    ]

-- no block is in none
pub none-outer : (b : Block) (bs : List Block) → AreCanonical (b ∷ bs) → IsSubset (b ∷ bs) [] → ⊥
none-outer b bs c f = f b.low (inl (omega arith, c.0))

pub none-inner : (ys : List Block) → IsSubset [] ys
none-inner ys n m = absurd m

-- ---- a set has one list

first-low : (x y : Block) (xs ys : List Block) → AreCanonical (x ∷ xs) → AreCanonical (y ∷ ys)
    → IsSubset (x ∷ xs) (y ∷ ys) → y.low ≤ x.low
first-low x y xs ys cx cy f = among-from x.low y ys cy (f x.low (inl (omega arith, cx.0)))

first-high : (x y : Block) (xs ys : List Block) → AreCanonical (x ∷ xs) → AreCanonical (y ∷ ys)
    → IsSubset (x ∷ xs) (y ∷ ys) → y.low ≤ x.low → x.low ≤ y.low → y.high < x.high → ⊥
first-high x y xs ys cx cy f low back h =
    ends-behind y x ys xs (omega (arith, cy.0)) h cy f

rest-within : (x y : Block) (xs ys : List Block) → AreCanonical (x ∷ xs) → x.high ≡ y.high
    → IsSubset (x ∷ xs) (y ∷ ys) → IsSubset xs ys
rest-within x y xs ys cx same f n m =
    let past : suc x.high < n = among-past x.high n xs cx.1 cx.2 m in
    elim (f n (inr m)) [ inl i ↦ absurd (omega arith) | inr r ↦ r ]

abbrev pub block : ℕ → ℕ → Block
block low high = record { low = low; high = high }

pub same-block : (x y : Block) → x.low ≡ y.low → x.high ≡ y.high → x ≡ y
same-block x y low high = ap (λ (l : ℕ). block l x.high) low ∙ ap (λ (h : ℕ). block y.low h) high

pub one-list : (xs ys : List Block) → AreCanonical xs → AreCanonical ys → IsSubset xs ys → IsSubset ys xs → xs ≡ ys
one-list [] [] cx cy f g = refl
one-list [] (y ∷ ys) cx cy f g = absurd (none-outer y ys cy g)
one-list (x ∷ xs) [] cx cy f g = absurd (none-outer x xs cx f)
one-list (x ∷ xs) (y ∷ ys) cx cy f g =
    let down : y.low ≤ x.low = first-low x y xs ys cx cy f in
    let up : x.low ≤ y.low = first-low y x ys xs cy cx g in
    let low : x.low ≡ y.low = omega arith in
    let under : y.high < x.high → ⊥ = first-high x y xs ys cx cy f down up in
    let over : x.high < y.high → ⊥ = first-high y x ys xs cy cx g up down in
    let high : x.high ≡ y.high = omega (arith, under, over) in
    let first : x ≡ y = same-block x y low high in
    let rest : xs ≡ ys = one-list xs ys cx.2 cy.2 (rest-within x y xs ys cx high f)
    (rest-within y x ys xs cy (sym high) g) in
    cc

pub empty : {X : Type 0} (xs : List X) → length xs ≡ 0 → xs ≡ []
empty [] h = refl
empty (x ∷ xs) h = absurd (omega arith)

-- ---- what a step over the blocks leaves to show

pub through : {A B C : Type 0} → A ↔ B → B ↔ C → A ↔ C
through f g = (λ a. g.0 (f.0 a), λ c. f.1 (g.1 c))

-- the same question, by the first blocks
opened : (p w xs ys ws bs : List Block) (a b : Block) → xs ≡ b ∷ bs → ys ≡ a ∷ ws → IsSubset p w ↔ IsSubset xs ys
    → IsSubset p w ↔ IsSubset (b ∷ bs) (a ∷ ws)
opened p w xs ys ws bs a b ex ey same =
    subst (λ (zs : List Block). IsSubset p w ↔ IsSubset zs (a ∷ ws)) ex
    (subst (λ (zs : List Block). IsSubset p w ↔ IsSubset xs zs) ey same)

pub outer-passed : (p w xs ys ws bs : List Block) (a b : Block) → xs ≡ b ∷ bs → ys ≡ a ∷ ws
    → IsSubset p w ↔ IsSubset xs ys
    → AreCanonical xs → AreCanonical ys → a.high < b.low → AreCanonical ws × (IsSubset p w ↔ IsSubset xs ws)
outer-passed p w xs ys ws bs a b ex ey same cx cy h =
    let cb : AreCanonical (b ∷ bs) = subst AreCanonical ex cx in
    let ca : AreCanonical (a ∷ ws) = subst AreCanonical ey cy in
    let is : IsSubset p w ↔ IsSubset (b ∷ bs) ws =
    through (opened p w xs ys ws bs a b ex ey same) (drop-outer a b ws bs h cb) in
    (ca.2, subst (λ (zs : List Block). IsSubset p w ↔ IsSubset zs ws) (sym ex) is)

-- a block ends before those after it
before : (a b : Block) (front rest : List Block) → AreCanonical (a ∷ (front ++ b ∷ rest)) → a.high < b.high
before a b [] rest c =
    let gap : suc a.high < b.low = c.1 in
    let full : b.low ≤ b.high = c.2.0 in
    omega arith
before a b (x ∷ front) rest c =
    let further : x.high < b.high = before x b front rest c.2 in
    let gap : suc a.high < x.low = c.1 in
    let full : x.low ≤ x.high = c.2.0 in
    omega arith

-- where a block ends below a number, numbers from that one on aren't among it or those in front
pub passed-many : (front : List Block) (b : Block) (rest : List Block) (number : ℕ) → AreCanonical (front ++ b ∷ rest)
    → b.high < number → AreCanonical rest × ((n : ℕ) → number ≤ n → IsAmong n (front ++ b ∷ rest) ↔ IsAmong n rest)
passed-many [] b rest number c h = (
  c.2,
  λ n from. (λ m. elim m [ inl i ↦ absurd (omega arith) | inr r ↦ r ], λ m. inr m),
)
passed-many (a ∷ front) b rest number c h =
    let later = passed-many front b rest number c.2 h in
    let ends : a.high < b.high = before a b front rest c in (
      later.0,
      λ n from. (
        λ m. elim m [ inl i ↦ absurd (omega arith) | inr r ↦ (later.1 n from).0 r ],
        λ m. inr ((later.1 n from).1 m),
      ),
    )

-- the same of a list that is halved
pub halves-passed : (bs front back others : List Block) (b : Block) (number : ℕ) → bs ≡ front ++ back
    → back ≡ b ∷ others → AreCanonical bs → b.high < number
    → AreCanonical others × ((n : ℕ) → number ≤ n → IsAmong n bs ↔ IsAmong n others)
halves-passed bs front back others b number is first c h =
    let e : bs ≡ front ++ b ∷ others = is ∙ ap (λ (l : List Block). front ++ l) first in
    let passed = passed-many front b others number (subst AreCanonical e c) h in
    (passed.0, subst (λ (l : List Block). (n : ℕ) → number ≤ n → IsAmong n l ↔ IsAmong n others) (sym e) passed.1)

-- blocks in which the numbers from the first inner one on are the same say the same
pub outers-passed : (p w xs ws zs bs : List Block) (b : Block) → xs ≡ b ∷ bs → IsSubset p w ↔ IsSubset xs ws
    → AreCanonical xs → ((n : ℕ) → b.low ≤ n → IsAmong n ws ↔ IsAmong n zs) → IsSubset p w ↔ IsSubset xs zs
outers-passed p w xs ws zs bs b ex same cx is = through same (
  λ f n m. (is n (from n m)).0 (f n m),
  λ f n m. (is n (from n m)).1 (f n m),
) where
  from : (n : ℕ) → IsAmong n xs → b.low ≤ n
  from n m = among-from n b bs (subst AreCanonical ex cx) (subst (IsAmong n) ex m)

pub inner-passed : (p w xs ys ws bs : List Block) (a b : Block) → xs ≡ b ∷ bs → ys ≡ a ∷ ws
    → IsSubset p w ↔ IsSubset xs ys
    → AreCanonical xs → a.low ≤ b.low → b.high ≤ a.high → AreCanonical bs × (IsSubset p w ↔ IsSubset bs ys)
inner-passed p w xs ys ws bs a b ex ey same cx low high =
    let cb : AreCanonical (b ∷ bs) = subst AreCanonical ex cx in
    let is : IsSubset p w ↔ IsSubset bs (a ∷ ws) =
    through (opened p w xs ys ws bs a b ex ey same) (drop-inner a b ws bs low high) in
    (cb.2, subst (λ (zs : List Block). IsSubset p w ↔ IsSubset bs zs) (sym ey) is)

pub found-before : (p w xs ys ws bs : List Block) (a b : Block) → xs ≡ b ∷ bs → ys ≡ a ∷ ws
    → IsSubset p w ↔ IsSubset xs ys
    → AreCanonical xs → AreCanonical ys → b.low < a.low → IsSubset p w → ⊥
found-before p w xs ys ws bs a b ex ey same cx cy h f =
    begins-before a b ws bs h (subst AreCanonical ey cy) (subst AreCanonical ex cx)
    ((opened p w xs ys ws bs a b ex ey same).0 f)

pub found-behind : (p w xs ys ws bs : List Block) (a b : Block) → xs ≡ b ∷ bs → ys ≡ a ∷ ws
    → IsSubset p w ↔ IsSubset xs ys
    → AreCanonical ys → b.low ≤ a.high → a.high < b.high → IsSubset p w → ⊥
found-behind p w xs ys ws bs a b ex ey same cy low high f =
    ends-behind a b ws bs low high (subst AreCanonical ey cy) ((opened p w xs ys ws bs a b ex ey same).0 f)

pub found-none : (p w xs ys bs : List Block) (b : Block) → xs ≡ b ∷ bs → ys ≡ [] → IsSubset p w ↔ IsSubset xs ys
    → AreCanonical xs → IsSubset p w → ⊥
found-none p w xs ys bs b ex ey same cx f =
    let g : IsSubset (b ∷ bs) [] = subst (λ (zs : List Block). IsSubset zs []) ex
    (subst (λ (zs : List Block). IsSubset xs zs) ey (same.0 f)) in
    none-outer b bs (subst AreCanonical ex cx) g

pub all-found : (p w xs ys : List Block) → xs ≡ [] → IsSubset p w ↔ IsSubset xs ys → IsSubset p w
all-found p w xs ys ex same = same.1 (subst (λ (zs : List Block). IsSubset zs ys) (sym ex) (none-inner ys))

-- ---- a number is below another, or not

pub split : (n m : ℕ) → (n < m) ⊎ (m ≤ n)
split n zero = inr (omega arith)
split zero (suc m) = inl (omega arith)
split (suc n) (suc m) = elim (split n m) [ inl h ↦ inl (omega (arith, h)) | inr h ↦ inr (omega (arith, h)) ]

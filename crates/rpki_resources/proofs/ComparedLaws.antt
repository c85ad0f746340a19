-- Two lists of blocks that are compared as they are read, one block of each at a time.
use Rattle.std.proofs.Common.{◌≡◌, ◌≢◌, ◌≤◌, ◌<◌, ◌↔◌, inl, inr, ℕ, List, [], ◌∷◌, ◌++◌, Bool, true, false, Some, None}
use Rattle.std.proofs.Common.{refl, sym, subst, append_assoc}
use Rattle.std.specs.Prelude.{IsTrue}
use Rattle.rpki_der.specs.declared.error.DecodeError.{DecodeError}
use Rattle.rpki_der.specs.Reading.{Spells, Accepts, Refusal, SpellsNothing}
use Rattle.rpki_der.proofs.InsideLaws.{unless-memory}
use Rattle.rpki_resources.specs.declared.block.Block.{Block}
use Rattle.rpki_resources.specs.declared.kind.ResourceKind.{ResourceKind}
use Rattle.rpki_resources.specs.Blocks.{IsSubset, AreCanonical}
use Rattle.rpki_resources.specs.Listed.{AreBlocks, SpellsNext, SpellsFollowing, IsNextFault}
use Rattle.rpki_resources.specs.Compared.{ArePart, AreNotBoth}
use Rattle.rpki_resources.proofs.BlocksLaws.{drop-outer, drop-inner, begins-before, ends-behind, none-outer, none-inner}
use Rattle.rpki_resources.proofs.BlocksLaws.{through, split}
use Rattle.rpki_resources.proofs.FollowLaws.{SoFar, at-start, next-read, next-wrong, next-some, next-no-memory}
use Rattle.rpki_resources.proofs.FollowLaws.{block-ascends, following-blocks, following-canonical, blocks-following}
use Rattle.rpki_resources.proofs.FollowLaws.{blocks-some}

-- ---- the rest of one list

abbrev pub Followings : ResourceKind → ℕ → List ℕ → Type 0
Followings kind last s = (bs : List Block) × SpellsFollowing kind (Some last) bs s

module _ (kind : ResourceKind) (last : ℕ) (s : List ℕ) where
  module _ (b : Block) (q : List ℕ) (some : s ≢ []) (a : Accepts (SpellsNext kind (Some last)) s b q) where
    pub follow-on : Followings kind last s → Followings kind b.high q
    follow-on h = step h.0 h.1 where
      step : (bs : List Block) → SpellsFollowing kind (Some last) bs s → Followings kind b.high q
      step [] k = absurd (some k)
      step (d ∷ ds) k =
          let is = a.only d k.0 k.1 in (
            ds,
            subst (λ (m : List ℕ). SpellsFollowing kind (Some b.high) ds m) is.1
                (subst (λ (y : Block). SpellsFollowing kind (Some y.high) ds k.0) is.0 k.2),
          )

    pub follow-back : Followings kind b.high q → Followings kind last s
    follow-back h = (b ∷ h.0, (q, a.spells, h.1))

  pub not-follow : (r : List ℕ) (e : DecodeError) → s ≢ []
      → Refusal (SpellsNext kind (Some last)) (IsNextFault kind (Some last)) s r e → Followings kind last s → ⊥
  not-follow r e some h k = step k.0 k.1 where
    step : (bs : List Block) → SpellsFollowing kind (Some last) bs s → ⊥
    step [] l = some l
    step (d ∷ ds) l = unless-memory e (next-no-memory kind (Some last) s e h.kind) h.refuses d l.0 l.1

  pub no-others : s ≡ [] → (bs : List Block) → SpellsFollowing kind (Some last) bs s → bs ≡ []
  no-others end [] h = refl
  no-others end (b ∷ bs) h = absurd (next-some kind (Some last) b h.0
      (subst (λ (m : List ℕ). Spells (SpellsNext kind (Some last)) m b h.0) end h.1))

-- ---- one list

module _ (kind : ResourceKind) (s : List ℕ) where
  pub first-wrong : (r : List ℕ) (e : DecodeError) → Refusal (SpellsNext kind None) (IsNextFault kind None) s r e
      → SpellsNothing (AreBlocks kind) s
  first-wrong r e h bs k = step bs (blocks-following kind bs s k) where
    step : (ds : List Block) → SpellsFollowing kind None ds s → ⊥
    step [] l = blocks-some kind bs s k l
    step (d ∷ ds) l = unless-memory e (next-no-memory kind None s e h.kind) h.refuses d l.0 l.1

  module _ (b : Block) (r : List ℕ) (a : Accepts (SpellsNext kind None) s b r) where
    first-some : s ≢ []
    first-some z = next-some kind None b r (subst (λ (m : List ℕ). Spells (SpellsNext kind None) m b r) z a.spells)

    pub are-all : Followings kind b.high r → (bs : List Block) × AreBlocks kind bs s
    are-all h = (b ∷ h.0, following-blocks kind (b ∷ h.0) s (r, a.spells, h.1) first-some)

    pub are-left : ((bs : List Block) × AreBlocks kind bs s) → Followings kind b.high r
    are-left h = step h.0 (blocks-following kind h.0 s h.1) where
      step : (ds : List Block) → SpellsFollowing kind None ds s → Followings kind b.high r
      step [] l = absurd (first-some l)
      step (d ∷ ds) l =
          let is = a.only d l.0 l.1 in (
            ds,
            subst (λ (m : List ℕ). SpellsFollowing kind (Some b.high) ds m) is.1
                (subst (λ (y : Block). SpellsFollowing kind (Some y.high) ds l.0) is.0 l.2),
          )

-- the blocks xs of s were read, the last of which is b, and r remains
pub record ReadTo (kind : ResourceKind) (s : List ℕ) (xs : List Block) (b : Block) (r : List ℕ) : Type 0 where
  pub so : SoFar kind s (Some b.high) r xs
  pub some : s ≢ []
  pub ascends : b.low ≤ b.high

module _ (kind : ResourceKind) (s : List ℕ) where
  first-read : (b : Block) (r : List ℕ) → Accepts (SpellsNext kind None) s b r → ReadTo kind s (b ∷ []) b r
  first-read b r a =
      let some : s ≢ [] = λ z. next-some kind None b r
      (subst (λ (m : List ℕ). Spells (SpellsNext kind None) m b r) z a.spells) in
      record {
        so = next-read kind s None s [] (at-start kind s) b r some a;
        some = some;
        ascends = block-ascends kind b a.spells.front a.spells.spelled.block;
      }

  module _ (xs : List Block) (b : Block) (r : List ℕ) (h : ReadTo kind s xs b r) where
    one-more : (d : Block) (q : List ℕ) → r ≢ [] → Accepts (SpellsNext kind (Some b.high)) r d q
        → ReadTo kind s (xs ++ (d ∷ [])) d q
    one-more d q some a = record {
      so = next-read kind s (Some b.high) r xs h.so d q some a;
      some = h.some;
      ascends = block-ascends kind d a.spells.front a.spells.spelled.block;
    }

    read-wrong : (q : List ℕ) (e : DecodeError) → r ≢ []
        → Refusal (SpellsNext kind (Some b.high)) (IsNextFault kind (Some b.high)) r q e
        → SpellsNothing (AreBlocks kind) s
    read-wrong q e some k = (next-wrong kind s (Some b.high) r xs h.so e q some k).0

    read-all : (ds : List Block) → SpellsFollowing kind (Some b.high) ds r → AreBlocks kind (xs ++ ds) s
    read-all ds k = following-blocks kind (xs ++ ds) s (h.so.forth ds k) h.some

    read-left : (bs : List Block) → AreBlocks kind bs s → Followings kind b.high r
    read-left bs k = let l = h.so.back bs (blocks-following kind bs s k) in (l.0, l.1)

    read-canonical : (ds : List Block) → SpellsFollowing kind (Some b.high) ds r → AreCanonical (b ∷ ds)
    read-canonical ds k = following-canonical kind b ds r h.ascends k

-- ---- both lists

-- Of s the blocks up to x were read, and of t those up to y: the one list is a part of the other where x and what
-- follows it are a part of y and what follows that.
pub record Merging (kind : ResourceKind) (s t : List ℕ) (x y : Block) (r q : List ℕ) : Type 0 where
  pub xs : List Block
  pub ys : List Block
  pub inner : ReadTo kind s xs x r
  pub outer : ReadTo kind t ys y q
  pub same : (ds es : List Block) → SpellsFollowing kind (Some x.high) ds r → SpellsFollowing kind (Some y.high) es q
      → IsSubset (xs ++ ds) (ys ++ es) ↔ IsSubset (x ∷ ds) (y ∷ es)

pub merge-start : (kind : ResourceKind) (s t : List ℕ) (x y : Block) (r q : List ℕ)
    → Accepts (SpellsNext kind None) s x r → Accepts (SpellsNext kind None) t y q
    → Merging kind s t x y r q
merge-start kind s t x y r q a b = record {
  xs = x ∷ [];
  ys = y ∷ [];
  inner = first-read kind s x r a;
  outer = first-read kind t y q b;
  same = λ ds es h k. (λ f. f, λ f. f);
}

module _ (kind : ResourceKind) (s t : List ℕ) (x y : Block) (r q : List ℕ) (h : Merging kind s t x y r q) where
  pub next-outer : y.high < x.low → q ≢ [] → (b : Block) (p : List ℕ) → Accepts (SpellsNext kind (Some y.high)) q b p
      → Merging kind s t x b r p
  next-outer less some b p a = record {
    xs = h.xs;
    ys = h.ys ++ (b ∷ []);
    inner = h.inner;
    outer = one-more kind t h.ys y q h.outer b p some a;
    same = λ ds es k l.
        let now = h.same ds (b ∷ es) k (p, a.spells, l) in
        let c = read-canonical kind s h.xs x r h.inner ds k in
        subst (λ (zs : List Block). IsSubset (h.xs ++ ds) zs ↔ IsSubset (x ∷ ds) (b ∷ es))
        (sym (append_assoc h.ys (b ∷ []) es))
        (through now (drop-outer y x (b ∷ es) ds less c));
  }

  pub next-inner : y.low ≤ x.low → x.high ≤ y.high → r ≢ [] → (b : Block) (p : List ℕ)
      → Accepts (SpellsNext kind (Some x.high)) r b p → Merging kind s t b y p q
  next-inner low high some b p a = record {
    xs = h.xs ++ (b ∷ []);
    ys = h.ys;
    inner = one-more kind s h.xs x r h.inner b p some a;
    outer = h.outer;
    same = λ ds es k l.
        let now = h.same (b ∷ ds) es (p, a.spells, k) l in
        subst (λ (zs : List Block). IsSubset zs (h.ys ++ es) ↔ IsSubset (b ∷ ds) (y ∷ es))
        (sym (append_assoc h.xs (b ∷ []) ds))
        (through now (drop-inner y x es (b ∷ ds) low high));
  }

  pub outer-wrong : (p : List ℕ) (e : DecodeError) → q ≢ []
      → Refusal (SpellsNext kind (Some y.high)) (IsNextFault kind (Some y.high)) q p e → AreNotBoth kind s t
  outer-wrong p e some k bs cs l m = read-wrong kind t h.ys y q h.outer p e some k cs m

  pub inner-wrong : (p : List ℕ) (e : DecodeError) → r ≢ []
      → Refusal (SpellsNext kind (Some x.high)) (IsNextFault kind (Some x.high)) r p e → AreNotBoth kind s t
  inner-wrong p e some k bs cs l m = read-wrong kind s h.xs x r h.inner p e some k bs l

  -- ---- the end

  pub rest-wrong : ((ds es : List Block) → SpellsFollowing kind (Some x.high) ds r
      → SpellsFollowing kind (Some y.high) es q → ⊥) → AreNotBoth kind s t
  rest-wrong none bs cs l m =
      let ds = read-left kind s h.xs x r h.inner bs l in
      let es = read-left kind t h.ys y q h.outer cs m in
      none ds.0 es.0 ds.1 es.1

  module _ (ds : Followings kind x.high r) (es : Followings kind y.high q) where
    ended : (answer : Bool) → IsTrue answer ↔ IsSubset (x ∷ ds.0) (y ∷ es.0) → ArePart kind s t answer
    ended answer is =
        let now = h.same ds.0 es.0 ds.1 es.1 in (
          h.xs ++ ds.0,
          h.ys ++ es.0,
          read-all kind s h.xs x r h.inner ds.0 ds.1,
          read-all kind t h.ys y q h.outer es.0 es.1,
          (λ z. now.1 (is.0 z), λ f. is.1 (now.0 f)),
        )

    not-part : (answer : Bool) → answer ≡ false → (IsSubset (x ∷ ds.0) (y ∷ es.0) → ⊥) → ArePart kind s t answer
    not-part answer is none = ended answer (λ z. let wrong : ⊥ = cc in absurd wrong, λ f. absurd (none f))

    pub nothing-around : (answer : Bool) → answer ≡ false → y.high < x.low → q ≡ [] → ArePart kind s t answer
    nothing-around answer is less end =
        let c = read-canonical kind s h.xs x r h.inner ds.0 ds.1 in
        let none : es.0 ≡ [] = no-others kind y.high q end es.0 es.1 in
        not-part answer is (λ f. none-outer x ds.0 c
        ((drop-outer y x [] ds.0 less c).0 (subst (λ (zs : List Block). IsSubset (x ∷ ds.0) (y ∷ zs)) none f)))

    pub all-held : (answer : Bool) → answer ≡ true → y.low ≤ x.low → x.high ≤ y.high → r ≡ [] → ArePart kind s t answer
    all-held answer is low high end =
        let none : ds.0 ≡ [] = no-others kind x.high r end ds.0 ds.1 in
        let all : IsSubset (x ∷ ds.0) (y ∷ es.0) =
        subst (λ (zs : List Block). IsSubset (x ∷ zs) (y ∷ es.0)) (sym none)
        ((drop-inner y x es.0 [] low high).1 (none-inner (y ∷ es.0))) in
        ended answer (λ z. all, λ f. is)

    pub not-held : (answer : Bool) → answer ≡ false → x.low ≤ y.high → ((y.low ≤ x.low) × (x.high ≤ y.high) → ⊥)
        → ArePart kind s t answer
    not-held answer is low none =
        let c = read-canonical kind s h.xs x r h.inner ds.0 ds.1 in
        let d = read-canonical kind t h.ys y q h.outer es.0 es.1 in
        not-part answer is (λ f. elim (split x.low y.low) [
          | inl less ↦ begins-before y x es.0 ds.0 less d c f
          | inr from ↦ elim (split y.high x.high) [
            | inl more ↦ ends-behind y x es.0 ds.0 low more d f
            | inr to ↦ none (from, to)
          ]
        ])

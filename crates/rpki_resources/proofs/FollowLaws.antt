-- Blocks in canonical form, block by block.
use Rattle.std.proofs.Common.{◌≡◌, ◌≢◌, ◌≤◌, ◌<◌, inl, inr, ℕ, List, [], ◌∷◌, ◌++◌, length, Option, Some, None, true}
use Rattle.std.proofs.Common.{false, refl, sym, ap, ◌∙◌, subst, ◌^◌, arith, append_assoc, length-append, Result, Ok}
use Rattle.std.proofs.Common.{Err}
use Rattle.std.specs.Prelude.{IsErr, IsErrAnd}
use Rattle.std.proofs.lemmas.List.{append-nil}
use Rattle.rpki_resources.specs.InPlace.{Counts}
use Rattle.rpki_der.specs.declared.error.DecodeError.{DecodeError}
use Rattle.rpki_der.specs.declared.error.ContentError.{ContentError}
use Rattle.rpki_der.specs.declared.error.DecodeError.TheVariants.{Content, OutOfMemory}
use Rattle.rpki_der.specs.TagName.{sequence, bit_string, integer}
use Rattle.rpki_der.specs.Integer.{IsUnsignedBelow}
use Rattle.rpki_der.specs.Reading.{Spells, Accepts, Refuses, Refusal, SpellsNothing}
use Rattle.rpki_der.specs.Each.{SpellsEach}
use Rattle.rpki_der.specs.Format.{IsContentError}
use Rattle.rpki_der.proofs.ReadingLaws.{UnlessMemory-from}
use Rattle.rpki_der.proofs.EachLaws.{leaf-some}
use Rattle.rpki_der.proofs.InsideLaws.{unless-memory}
use Rattle.rpki_resources.specs.declared.block.Block.{Block}
use Rattle.rpki_resources.specs.declared.kind.ResourceKind.{ResourceKind}
use Rattle.rpki_resources.specs.declared.kind.ResourceKind.TheVariants.{Addresses, AsNumbers}
use Rattle.rpki_resources.specs.Blocks.{AreCanonical, IsPast}
use Rattle.rpki_resources.specs.Address.{width, IsAddress, address, IsRange, prefix, range_ends, range, block}
use Rattle.rpki_resources.specs.AsNumber.{as_number, as_id, IsAsRange, as_ends, as_range, as_block}
use Rattle.rpki_resources.specs.Listed.{block_of, AreBlocks, Follows, SpellsNext, SpellsFollowing, IsNextFault}
use Rattle.rpki_resources.specs.Listed.{AreBlocksFault}
use Rattle.rpki_resources.specs.Listed.IsNextFault.{InBlock, OutOfOrder}
use Rattle.rpki_resources.specs.Listed.AreBlocksFault.{NoBlock, AtBlock, AfterBlock}
use Rattle.rpki_resources.proofs.AddressLaws.{prefix-ascends}
use Rattle.rpki_resources.proofs.ComposingLaws.{NeverFails, leaf-never, around-never, either-never, ends-never}

-- ---- one block

-- it is written in some octets
address-some : (w : ℕ) (b : Block) → (block w).spells b [] → ⊥
address-some w b (inl p) = leaf-some sequence true (range_ends w).spells b p
address-some w b (inr p) = leaf-some bit_string false (IsAddress w) p.value p.spelled

number-some : (b : Block) → as_block.spells b [] → ⊥
number-some b (inl p) = leaf-some sequence true as_ends.spells b p
number-some b (inr p) = leaf-some integer false (IsUnsignedBelow (2 ^ 32)) p.value p.spelled

pub block-some : (kind : ResourceKind) (b : Block) → (block_of kind).spells b [] → ⊥
block-some (Addresses family) b p = address-some (width family) b p
block-some AsNumbers b p = number-some b p

-- it isn't empty
address-ascends : (w : ℕ) (b : Block) (p : List ℕ) → (block w).spells b p → b.low ≤ b.high
address-ascends w b p (inl h) = h.spelled.stands.some
address-ascends w b p (inr h) = subst (λ (d : Block). d.low ≤ d.high) (sym h.stands) (prefix-ascends w h.value)

number-ascends : (b : Block) (p : List ℕ) → as_block.spells b p → b.low ≤ b.high
number-ascends b p (inl h) = omega (arith, h.spelled.stands.low, h.spelled.stands.high, h.spelled.stands.ascends)
number-ascends b p (inr h) = omega (arith, h.stands.0, h.stands.1)

pub block-ascends : (kind : ResourceKind) (b : Block) (p : List ℕ) → (block_of kind).spells b p → b.low ≤ b.high
block-ascends (Addresses family) b p h = address-ascends (width family) b p h
block-ascends AsNumbers b p h = number-ascends b p h

-- reading it takes no memory
address-never : (w : ℕ) → NeverFails (address w)
address-never w = leaf-never bit_string (IsAddress w)

number-never : NeverFails as_number
number-never = leaf-never integer (IsUnsignedBelow (2 ^ 32))

addresses-never : (w : ℕ) → NeverFails (block w)
addresses-never w =
    either-never sequence (range w) (prefix w)
    (around-never sequence (range_ends w) (ends-never (IsRange w) (address w) (address-never w))) (address-never w)

block-never : (kind : ResourceKind) → NeverFails (block_of kind)
block-never (Addresses family) = addresses-never (width family)
block-never AsNumbers =
    either-never sequence as_range as_id
    (around-never sequence as_ends (ends-never IsAsRange as_number number-never)) number-never

pub block-no-memory : (kind : ResourceKind) (s : List ℕ) (e : DecodeError) → (block_of kind).fault s e → e ≢ OutOfMemory
block-no-memory kind s e h z = block-never kind s (subst ((block_of kind).fault s) z h)

-- ---- a block that may follow a number

as-block : (kind : ResourceKind) (last : Option ℕ) (s : List ℕ) (b : Block) (r : List ℕ)
    → Spells (SpellsNext kind last) s b r → Spells (block_of kind).spells s b r
as-block kind last s b r h = record { front = h.front; parts = h.parts; spelled = h.spelled.block }

module _ (kind : ResourceKind) (last : Option ℕ) (s : List ℕ) where
  pub next-accepted : (b : Block) (r : List ℕ) → Accepts (block_of kind).spells s b r → Follows last b
      → Accepts (SpellsNext kind last) s b r
  next-accepted b r a f = record {
    spells = record {
      front = a.spells.front;
      parts = a.spells.parts;
      spelled =
          record { block = a.spells.spelled; follows = f };
    };
    only = λ d q h. a.only d q (as-block kind last s d q h);
  }

  pub next-refused : (q r : List ℕ) (e : DecodeError) → r ≡ s
      → Refusal (block_of kind).spells (block_of kind).fault s q e
      → Refusal (SpellsNext kind last) (IsNextFault kind last) s r e
  next-refused q r e same k =
      let none : Refuses (block_of kind).spells s = unless-memory e (block-no-memory kind s e k.kind) k.refuses in
      record {
        unchanged = same;
        refuses = UnlessMemory-from e (λ d p h. none d p (as-block kind last s d p h));
        kind = InBlock none k.kind;
      }

  pub next-out : (b : Block) (q r : List ℕ) (x : ContentError) → r ≡ s → Accepts (block_of kind).spells s b q
      → (Follows last b → ⊥)
      → Refusal (SpellsNext kind last) (IsNextFault kind last) s r (Content x)
  next-out b q r x same a not = record {
    unchanged = same;
    refuses = λ d p h. let e = a.only d p (as-block kind last s d p h) in not
        (subst (λ (y : Block). Follows last y) e.0 h.spelled.follows);
    kind = OutOfOrder b q a not tt;
  }

pub next-no-memory : (kind : ResourceKind) (last : Option ℕ) (s : List ℕ) (e : DecodeError) → IsNextFault kind last s e
    → e ≢ OutOfMemory
next-no-memory kind last s e (InBlock none k) = block-no-memory kind s e k
next-no-memory kind last s e (OutOfOrder b r a not k) = λ z. subst IsContentError z k

pub next-some : (kind : ResourceKind) (last : Option ℕ) (b : Block) (r : List ℕ) → Spells (SpellsNext kind last) [] b r
    → ⊥
next-some kind last b r h =
    block-some kind b (subst ((block_of kind).spells b) (none h.front r h.parts) h.spelled.block) where
      none : (p q : List ℕ) → [] ≡ p ++ q → p ≡ []
      none [] q e = refl
      none (y ∷ ys) q e = absurd (cc)

-- ---- blocks, each after the one before, are blocks in canonical form

abbrev FollowsFirst : Option ℕ → List Block → Type 0
FollowsFirst last [] = Unit {0}
FollowsFirst last (b ∷ bs) = Follows last b

past-first : (high : ℕ) (bs : List Block) → FollowsFirst (Some high) bs → IsPast high bs
past-first high [] h = tt
past-first high (b ∷ bs) h = h

first-past : (high : ℕ) (bs : List Block) → IsPast high bs → FollowsFirst (Some high) bs
first-past high [] h = tt
first-past high (b ∷ bs) h = h

taken-apart : (kind : ResourceKind) (last : Option ℕ) (bs : List Block) (c : List ℕ) → SpellsFollowing kind last bs c
    → SpellsEach (block_of kind).spells bs c × AreCanonical bs × FollowsFirst last bs
taken-apart kind last [] c h = (h, tt, tt)
taken-apart kind last (b ∷ bs) c h =
    let k = taken-apart kind (Some b.high) bs h.0 h.2 in (
      (h.0, as-block kind last c b h.0 h.1, k.0),
      (block-ascends kind b h.1.front h.1.spelled.block, past-first b.high bs k.2, k.1),
      h.1.spelled.follows,
    )

put-together : (kind : ResourceKind) (last : Option ℕ) (bs : List Block) (c : List ℕ)
    → SpellsEach (block_of kind).spells bs c → AreCanonical bs → FollowsFirst last bs → SpellsFollowing kind last bs c
put-together kind last [] c h d f = h
put-together kind last (b ∷ bs) c h d f = (
  h.0,
  record { front = h.1.front; parts = h.1.parts; spelled = record { block = h.1.spelled; follows = f } },
  put-together kind (Some b.high) bs h.0 h.2 d.2 (first-past b.high bs d.1),
)

first-anywhere : (bs : List Block) → FollowsFirst None bs
first-anywhere [] = tt
first-anywhere (b ∷ bs) = tt

no-blocks : (kind : ResourceKind) (bs : List Block) (c : List ℕ) → SpellsFollowing kind None bs c → c ≢ [] → bs ≢ []
no-blocks kind [] c h some z = some h
no-blocks kind (b ∷ bs) c h some z = cc

some-octets : (kind : ResourceKind) (bs : List Block) (c : List ℕ) → SpellsFollowing kind None bs c → bs ≢ [] → c ≢ []
some-octets kind [] c h some z = some refl
some-octets kind (b ∷ bs) c h some z = next-some kind None b h.0
    (subst (λ (s : List ℕ). Spells (SpellsNext kind None) s b h.0) z h.1)

pub following-blocks : (kind : ResourceKind) (bs : List Block) (c : List ℕ) → SpellsFollowing kind None bs c → c ≢ []
    → AreBlocks kind bs c
following-blocks kind bs c h some = let k = taken-apart kind None bs c h in
    record { each = k.0; canonical = k.1; some = no-blocks kind bs c h some }

pub blocks-following : (kind : ResourceKind) (bs : List Block) (c : List ℕ) → AreBlocks kind bs c
    → SpellsFollowing kind None bs c
blocks-following kind bs c h = put-together kind None bs c h.each h.canonical (first-anywhere bs)

-- a block, and blocks that follow it
pub following-canonical : (kind : ResourceKind) (b : Block) (bs : List Block) (c : List ℕ) → b.low ≤ b.high
    → SpellsFollowing kind (Some b.high) bs c → AreCanonical (b ∷ bs)
following-canonical kind b bs c up h = let k =
    taken-apart kind (Some b.high) bs c h in (up, past-first b.high bs k.2, k.1)

pub blocks-some : (kind : ResourceKind) (bs : List Block) (c : List ℕ) → AreBlocks kind bs c → c ≢ []
blocks-some kind bs c h = some-octets kind bs c (blocks-following kind bs c h) h.some

-- ---- a loop that reads one block after another

-- the blocks xs of s were read, the last of which ends with this number, and r remains
pub record SoFar (kind : ResourceKind) (s : List ℕ) (last : Option ℕ) (r : List ℕ) (xs : List Block) : Type 0 where
  pub forth : (ds : List Block) → SpellsFollowing kind last ds r → SpellsFollowing kind None (xs ++ ds) s
  pub back : (es : List Block) → SpellsFollowing kind None es s
      → (ds : List Block) × SpellsFollowing kind last ds r × (es ≡ xs ++ ds)
  pub fault : (e : DecodeError) → r ≢ [] → AreBlocksFault kind last r e → AreBlocksFault kind None s e

pub at-start : (kind : ResourceKind) (s : List ℕ) → SoFar kind s None s []
at-start kind s = record { forth = λ ds h. h; back = λ es h. (es, h, refl); fault = λ e some h. h }

module _ (kind : ResourceKind) (s : List ℕ) (last : Option ℕ) (r : List ℕ) (xs : List Block)
    (so : SoFar kind s last r xs) where
  pub next-read : (b : Block) (q : List ℕ) → r ≢ [] → Accepts (SpellsNext kind last) r b q
      → SoFar kind s (Some b.high) q (xs ++ (b ∷ []))
  next-read b q some a = record {
    forth = λ ds h. subst (λ (ys : List Block). SpellsFollowing kind None ys s) (sym (append_assoc xs (b ∷ []) ds))
        (so.forth (b ∷ ds) (q, a.spells, h));
    back = λ es h. let k = so.back es h in backwards es k.0 k.1 k.2;
    fault = λ e more h. so.fault e some (AfterBlock b q a h);
  } where
    backwards : (es ds : List Block) → SpellsFollowing kind last ds r → es ≡ xs ++ ds
        → (ys : List Block) × SpellsFollowing kind (Some b.high) ys q × (es ≡ (xs ++ (b ∷ [])) ++ ys)
    backwards es [] h e = absurd (some h)
    backwards es (d ∷ ds) h e =
        let is = a.only d h.0 h.1 in
        let first : SpellsFollowing kind (Some b.high) ds q =
        subst (λ (m : List ℕ). SpellsFollowing kind (Some b.high) ds m) is.1
        (subst (λ (y : Block). SpellsFollowing kind (Some y.high) ds h.0) is.0 h.2) in
        (ds, first, e ∙ ap (λ (y : Block). xs ++ (y ∷ ds)) is.0 ∙ sym (append_assoc xs (b ∷ []) ds))

  pub nothing-next : r ≢ [] → Refuses (SpellsNext kind last) r → SpellsNothing (AreBlocks kind) s
  nothing-next some none es h = let k = so.back es (blocks-following kind es s h) in no k.0 k.1 where
    no : (ds : List Block) → SpellsFollowing kind last ds r → ⊥
    no [] k = some k
    no (d ∷ ds) k = none d k.0 k.1

  pub next-wrong : (e : DecodeError) (q : List ℕ) → r ≢ []
      → Refusal (SpellsNext kind last) (IsNextFault kind last) r q e
      → SpellsNothing (AreBlocks kind) s × AreBlocksFault kind None s e
  next-wrong e q some h = (
    nothing-next some (unless-memory e (next-no-memory kind last r e h.kind) h.refuses),
    so.fault e some (AtBlock some h.kind),
  )

  pub all-read : s ≢ [] → r ≡ [] → AreBlocks kind xs s × ((ds : List Block) → AreBlocks kind ds s → ds ≡ xs)
  all-read some end = (
    following-blocks kind xs s (subst (λ (ys : List Block). SpellsFollowing kind None ys s) (append-nil xs)
        (so.forth [] end)) some,
    λ ds h. let k = so.back ds (blocks-following kind ds s h) in is ds k.0 k.1 k.2,
  ) where
    is : (es ds : List Block) → SpellsFollowing kind last ds r → es ≡ xs ++ ds → es ≡ xs
    is es [] h e = e ∙ append-nil xs
    is es (d ∷ ds) h e = absurd (next-some kind last d h.0
        (subst (λ (m : List ℕ). Spells (SpellsNext kind last) m d h.0) end h.1))

-- a block that was read left fewer octets
pub next-shorter : (kind : ResourceKind) (last : Option ℕ) (r : List ℕ) (b : Block) (q : List ℕ)
    → Accepts (SpellsNext kind last) r b q → length q < length r
next-shorter kind last r b q a = shorter a.spells.front a.spells.parts a.spells.spelled where
  shorter : (p : List ℕ) → r ≡ p ++ q → SpellsNext kind last b p → length q < length r
  shorter [] e h = absurd (block-some kind b h.block)
  shorter (y ∷ ys) e h = omega (arith, ap length e, length-append (y ∷ ys) q)

pub some-left : (r : List ℕ) → r ≢ [] → 1 ≤ length r
some-left [] h = absurd (h refl)
some-left (y ∷ ys) h = omega arith

pub no-octets : (kind : ResourceKind) (s : List ℕ) (x : ContentError) → s ≡ []
    → SpellsNothing (AreBlocks kind) s × AreBlocksFault kind None s (Content x)
no-octets kind s x e = (
  λ bs h. blocks-some kind bs s h e,
  subst (λ (m : List ℕ). AreBlocksFault kind None m (Content x)) (sym e) (NoBlock tt),
)

pub tried-counts : (kind : ResourceKind) (s : List ℕ) (d : DecodeError) (x : Result ℕ DecodeError)
    → IsErr x × IsErrAnd x (λ e. e ≡ d) → SpellsNothing (AreBlocks kind) s × AreBlocksFault kind None s d
    → Counts kind s x
tried-counts kind s d (Ok n) h k = absurd h.1
tried-counts kind s d (Err e) h k = (k.0, subst (AreBlocksFault kind None s) (sym h.1) k.1)

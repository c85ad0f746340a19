-- Texts of lists of blocks, as they are read.
use Rattle.std.proofs.Common.{◌≡◌, ◌≢◌, inl, inr, ℕ, suc, Bool, true, false, List, [], ◌∷◌, ◌++◌, length, refl, sym, ap}
use Rattle.std.proofs.Common.{◌∙◌, subst, arith}
use Rattle.std.specs.Prelude.{Option, Some, None, ◌==◌}
use Rattle.std.specs.Str.{trim}
use Rattle.std.proofs.lemmas.List.{append-nil}
use Rattle.std.proofs.lemmas.List.Splits.{slice_split-cons_no}
use Rattle.std.specs.List.{onto_first}
use Rattle.std.proofs.lemmas.Bool.Decides.{eqb_tells}
use Rattle.std.proofs.NetLemmas.Theorems.{IsIpText_unique}
use Rattle.std.specs.Net.Grammar.{IsIpText}
use Rattle.std.specs.declared.net.ip_addr.IpAddr.{IpAddr}
use Rattle.std.specs.declared.net.ip_addr.IpAddr.TheVariants.{V4, V6}
use Rattle.rpki_resources.specs.declared.block.Block.{Block}
use Rattle.rpki_resources.specs.declared.family.AddressFamily.{AddressFamily}
use Rattle.rpki_resources.specs.declared.family.AddressFamily.TheVariants.{Ipv4, Ipv6}
use Rattle.rpki_resources.specs.declared.kind.ResourceKind.{ResourceKind}
use Rattle.rpki_resources.specs.declared.kind.ResourceKind.TheVariants.{Addresses}
use Rattle.rpki_resources.specs.declared.ip_text.IpBlock.{IpBlock}
use Rattle.rpki_resources.specs.declared.ip_text.IpBlock.TheVariants.{Prefix as PrefixBlock, Range as RangeBlock}
use Rattle.rpki_resources.specs.declared.list_read.ParseBlocksError.{ParseBlocksError}
use Rattle.rpki_resources.specs.declared.list_read.ParseBlocksError.TheVariants.{OutOfMemory}
use Rattle.rpki_resources.specs.Text.{IsAddressOfNumber, IsIpBlockOf}
use Rattle.rpki_resources.specs.IpRead.{family_of, IsIpBlockText}
use Rattle.rpki_resources.specs.ListRead.{family_of_block, parts_at_commas, parts_of_rest, IsBlockText}
use Rattle.rpki_resources.specs.ListRead.{IsBlockTextError, AreBlockTexts, AreBlockTextsError}
use Rattle.rpki_resources.proofs.AsReadLaws.{not-plain, one-split}
use Rattle.rpki_resources.proofs.IpReadLaws.{HasNo, one-cut, number-none, some-there}
use Rattle.rpki_resources.proofs.AddressTextLaws.{address-lacks, address-none, prefix-none}

-- ---- parts

-- a text without a comma is one part
pub one-part : (text : List ℕ) → HasNo 44 text → parts_at_commas text ≡ text ∷ []
one-part [] h = refl
one-part (x ∷ xs) h = elim (eqb_tells x 44) [
  | inl k ↦ absurd (h 0 (omega arith) k.1)
  | inr k ↦ slice_split-cons_no (λ c. c == 44) x xs k.0
      ∙ ap (onto_first x) (one-part xs (λ i lt e. h (suc i) (omega (arith, lt)) e))
]

-- ---- the loop: what the remaining parts say, all say

pub record Reading (kind : ResourceKind) (text : List ℕ) (found : List Block) (left : Option (List ℕ)) : Type 0 where
  pub accepted : (bs : List Block) → AreBlockTexts kind (parts_of_rest left) bs
      → AreBlockTexts kind (parts_at_commas text) (found ++ bs)
  pub refused : (e : ParseBlocksError) → AreBlockTextsError kind (parts_of_rest left) e
      → AreBlockTextsError kind (parts_at_commas text) e

module _ (kind : ResourceKind) (text : List ℕ) (found : List Block) (here part : List ℕ) (rest : Option (List ℕ))
    (is : Reading kind text found (Some here)) (parts : parts_at_commas here ≡ part ∷ parts_of_rest rest) where
  pub none-read : (e : ParseBlocksError) → IsBlockTextError kind (trim part) e
      → AreBlockTextsError kind (parts_at_commas text) e
  none-read e h = is.refused e (rw parts (inl h))

  pub no-room : (b : Block) → IsBlockText kind (trim part) b
      → AreBlockTextsError kind (parts_at_commas text) OutOfMemory
  no-room b h = is.refused OutOfMemory (rw parts (inr (b, h, inl refl)))

pub all-read : (kind : ResourceKind) (text : List ℕ) (found : List Block) → Reading kind text found None
    → AreBlockTexts kind (parts_at_commas text) found
all-read kind text found is = rw (append-nil found) at (is.accepted [] tt)

-- ---- a text writes addresses of one family

address-family : (family : AddressFamily) (a : IpAddr) (n : ℕ) → IsAddressOfNumber family a n → family_of a ≡ family
address-family Ipv4 (V4 a) n h = refl
address-family Ipv4 (V6 a) n h = absurd h
address-family Ipv6 (V4 a) n h = absurd h
address-family Ipv6 (V6 a) n h = refl

block-family : (family : AddressFamily) (x : IpBlock) (b : Block) → IsIpBlockOf family x b → family_of_block x ≡ family
block-family family (PrefixBlock p) b h = address-family family p.addr b.low h.addr
block-family family (RangeBlock r) b h = address-family family r.min b.low h.0

no-slash : (text : List ℕ) (a : IpAddr) → IsIpText text a → HasNo 47 text
no-slash = address-lacks 47 (omega arith) (omega arith) (λ e. absurd (omega (arith, e)))

pub one-family : (text : List ℕ) (x y : IpBlock) → IsIpBlockText text x → IsIpBlockText text y
    → family_of_block x ≡ family_of_block y
one-family text x y (inl h) (inl k) =
    let e = one-cut 47 h.1.0 h.1.1 k.1.0 k.1.1 (sym h.1.2 ∙ k.1.2) (number-none h.1.1 h.1.3.digits.1)
    (number-none k.1.1 k.1.3.digits.1) in
    let same = IsIpText_unique k.1.0 h.0.addr k.0.addr
    (subst (λ (t : List ℕ). IsIpText t h.0.addr) e.0 h.1.3.is_address) k.1.3.is_address in
    rw (h.2, k.2) (ap family_of same)
one-family text x y (inl h) (inr (inl k)) = absurd
    (some-there 47 h.1.0 h.1.1 (subst (HasNo 47) h.1.2 (no-slash text k.0 k.1)))
one-family text x y (inl h) (inr (inr k)) = absurd (not-plain k.0 k.1 (subst (HasNo 45) k.2 (prefix-none text h.0 h.1)))
one-family text x y (inr (inl h)) (inl k) = absurd
    (some-there 47 k.1.0 k.1.1 (subst (HasNo 47) k.1.2 (no-slash text h.0 h.1)))
one-family text x y (inr (inl h)) (inr (inl k)) = rw (h.2, k.2) (ap family_of (IsIpText_unique text h.0 k.0 h.1 k.1))
one-family text x y (inr (inl h)) (inr (inr k)) =
    absurd (not-plain k.0 k.1 (subst (HasNo 45) k.2 (address-none text h.0 h.1)))
one-family text x y (inr (inr h)) (inl k) = absurd (not-plain h.0 h.1 (subst (HasNo 45) h.2 (prefix-none text k.0 k.1)))
one-family text x y (inr (inr h)) (inr (inl k)) =
    absurd (not-plain h.0 h.1 (subst (HasNo 45) h.2 (address-none text k.0 k.1)))
one-family text x y (inr (inr h)) (inr (inr k)) =
    let e = one-split h.0 h.1 k.0 k.1 (sym h.2 ∙ k.2) (address-none h.0 h.3.low h.3.is_low)
    (address-none k.0 k.3.low k.3.is_low) in
    let same = IsIpText_unique k.0 h.3.low k.3.low (subst (λ (t : List ℕ). IsIpText t h.3.low) e.0 h.3.is_low)
    k.3.is_low in
    block-family (family_of h.3.low) x _ h.3.is_block ∙ ap family_of same
    ∙ sym (block-family (family_of k.3.low) y _ k.3.is_block)

-- a block of one family is none of the other
pub other-family : (text : List ℕ) (x : IpBlock) (family : AddressFamily) → IsIpBlockText text x
    → (family_of_block x ≡ family → ⊥)
    → (b : Block) → IsBlockText (Addresses family) text b → ⊥
other-family text x family h other b k = other (one-family text x k.0 h k.1 ∙ k.2)

-- ---- the set

pub not-blank : (text t : List ℕ) (b : Bool) → t ≡ trim text → b ≡ (length t == 0) → b ≡ false → trim text ≡ [] → ⊥
not-blank text t b e f g h =
    let none : t ≡ [] = e ∙ h in
    let k : (length t == 0) ≡ true = rw none refl in
    let no : ⊥ = cc in
    no

pub no-room-behind : (kind : ResourceKind) (parts : List (List ℕ)) (bs : List Block) → AreBlockTexts kind parts bs
    → bs ≢ [] → AreBlockTextsError kind parts OutOfMemory
no-room-behind kind [] [] h some = absurd (some refl)
no-room-behind kind [] (b ∷ bs) h some = absurd h
no-room-behind kind (part ∷ parts) [] h some = absurd h
no-room-behind kind (part ∷ parts) (b ∷ bs) h some = inr (b, h.0, inl refl)

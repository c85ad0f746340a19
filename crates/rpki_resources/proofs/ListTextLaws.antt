-- Texts of blocks, as those of the prefixes and ranges that they are.
use Rattle.std.proofs.Common.{◌≡◌, ◌≢◌, ◌≤◌, ◌<◌, ◌+◌, ◌-◌, ◌*◌, ◌%◌, ◌^◌, ◌⊎◌, inl, inr, ℕ, zero, suc, true, false}
use Rattle.std.proofs.Common.{List, refl, sym, ap, ◌∙◌, subst, arith}
use Rattle.std.proofs.Math.Nat.{mul-mod_left}
use Rattle.std.proofs.Math.Pow.{pow-lt}
use Rattle.std.proofs.lemmas.Bool.Decides.{eqb_tells}
use Rattle.std.specs.Net.Text.{ip_text, ipv4_text, ipv6_text}
use Rattle.std.specs.Net.Addr.{IsIpv4OfBits, IsIpv6OfBits}
use Rattle.std.specs.declared.net.ip_addr.IpAddr.{IpAddr}
use Rattle.std.specs.declared.net.ip_addr.IpAddr.TheVariants.{V4, V6}
use Rattle.rpki_resources.specs.declared.family.AddressFamily.{AddressFamily}
use Rattle.rpki_resources.specs.declared.family.AddressFamily.TheVariants.{Ipv4, Ipv6}
use Rattle.rpki_resources.specs.declared.block.Block.{Block}
use Rattle.rpki_resources.specs.declared.kind.ResourceKind.TheVariants.{Addresses, AsNumbers}
use Rattle.rpki_resources.specs.declared.as_text.AsBlock.{AsBlock}
use Rattle.rpki_resources.specs.declared.as_text.AsBlock.TheVariants.{Id, Range}
use Rattle.rpki_resources.specs.declared.ip_text.IpBlock.{IpBlock}
use Rattle.rpki_resources.specs.declared.ip_text.IpBlock.TheVariants.{Prefix as PrefixBlock, Range as RangeBlock}
use Rattle.rpki_resources.specs.Address.{width, IsPrefix}
use Rattle.rpki_resources.specs.Text.{as_number_text, range_text, prefix_text, as_block_text, ip_block_text}
use Rattle.rpki_resources.specs.Text.{IsAsBlockOf, IsAddressOfNumber, IsIpBlockOf}
use Rattle.rpki_resources.specs.ListText.{address_text, shares, address_range_text, address_block_text}
use Rattle.rpki_resources.specs.ListText.{number_block_text, block_text}
use Rattle.rpki_resources.proofs.BlocksLaws.{split}
use Rattle.rpki_resources.proofs.PrefixLaws.{shared-prefix}

-- ---- AS numbers

one-or-range : (b : Block) → ((b.low ≡ b.high) × (number_block_text b ≡ as_number_text b.low))
    ⊎ ((b.low ≢ b.high) × (number_block_text b ≡ range_text (as_number_text b.low) (as_number_text b.high)))
one-or-range b = elim (eqb_tells b.low b.high) [
  | inl h ↦ inl (h.1, rw h.0 refl)
  | inr h ↦ inr (h.1, rw h.0 refl)
]

pub as-block : (a : AsBlock) (b : Block) → IsAsBlockOf a b → as_block_text a ≡ block_text AsNumbers b
as-block (Id a) b h = elim (one-or-range b) [
  | inl k ↦ sym (k.1 ∙ ap as_number_text h.0)
  | inr k ↦ absurd (k.0 (h.0 ∙ sym h.1))
]
as-block (Range r) b h = elim (one-or-range b) [
  | inl k ↦ let lt : b.low < b.high = h.2 in let same : b.low ≡ b.high = k.0 in absurd (omega arith)
  | inr k ↦ sym (k.1 ∙ ap (λ (n : ℕ). range_text (as_number_text n) (as_number_text b.high)) h.0
      ∙ ap (λ (n : ℕ). range_text (as_number_text r.min.0) (as_number_text n)) h.1)
]

-- ---- addresses

pub address-text : (family : AddressFamily) (a : IpAddr) (n : ℕ) → IsAddressOfNumber family a n
    → ip_text a ≡ address_text family n
unfolding address_text IsIpv4OfBits IsIpv6OfBits
address-text Ipv4 (V4 a) n h = ap ipv4_text h
address-text Ipv4 (V6 a) n h = absurd h
address-text Ipv6 (V4 a) n h = absurd h
address-text Ipv6 (V6 a) n h = ap ipv6_text h

-- what it says that a block shares so many bits
shares-tells : (family : AddressFamily) (b : Block) (bits : ℕ)
    → ((shares family b bits ≡ true) × (b.low % 2 ^ (width family - bits) ≡ 0)
    × (suc b.high ≡ b.low + 2 ^ (width family - bits)))
    ⊎ ((shares family b bits ≡ false) × (b.low % 2 ^ (width family - bits) ≡ 0
    → suc b.high ≡ b.low + 2 ^ (width family - bits) → ⊥))
shares-tells family b bits = elim (eqb_tells (b.low % 2 ^ (width family - bits)) 0) [
  | inl h ↦ (elim (eqb_tells (suc b.high) (b.low + 2 ^ (width family - bits))) [
    | inl k ↦ inl (rw (h.0, k.0) refl, h.1, k.1)
    | inr k ↦ inr (rw (h.0, k.0) refl, λ _ e. k.1 e)
  ])
  | inr h ↦ inr (rw h.0 refl, λ e _. h.1 e)
]

-- a block that is no prefix is written as a range
range-text : (family : AddressFamily) (b : Block) (bits : ℕ) → (IsPrefix b.low b.high → ⊥)
    → address_block_text family b bits ≡ address_range_text family b
unfolding address_block_text
range-text family b zero none = elim (shares-tells family b zero) [
  | inl h ↦ absurd (none (shared-prefix b.low b.high (width family - zero) h.1 h.2))
  | inr h ↦ rw h.0 refl
]
range-text family b (suc bits) none = elim (shares-tells family b (suc bits)) [
  | inl h ↦ absurd (none (shared-prefix b.low b.high (width family - suc bits) h.1 h.2))
  | inr h ↦ rw h.0 (range-text family b bits none)
]

-- a prefix shares its bits
does-share : (family : AddressFamily) (b : Block) (bits q : ℕ) → b.low ≡ q * 2 ^ (width family - bits)
    → suc b.high ≡ suc q * 2 ^ (width family - bits)
    → shares family b bits ≡ true
does-share family b bits q low high = elim (shares-tells family b bits) [
  | inl h ↦ h.0
  | inr h ↦ absurd (h.1 (rw low (mul-mod_left q (2 ^ (width family - bits)))) (omega arith))
]

-- and no more
shares-no-more : (family : AddressFamily) (b : Block) (bits len q : ℕ) → len < bits → bits ≤ width family
    → b.low ≡ q * 2 ^ (width family - len) → suc b.high ≡ suc q * 2 ^ (width family - len)
    → shares family b bits ≡ false
shares-no-more family b bits len q lt le low high = elim (shares-tells family b bits) [
  | inl h ↦ (
      let fewer : width family - bits < width family - len = omega arith in
      let less : 2 ^ (width family - bits) < 2 ^ (width family - len) = pow-lt fewer in
      let all = h.2 in
      absurd (omega (arith, less, all, low, high)))
  | inr h ↦ h.0
]

-- a prefix is written as one
prefix-text : (family : AddressFamily) (b : Block) (bits len q : ℕ) → len ≤ bits → bits ≤ width family
    → b.low ≡ q * 2 ^ (width family - len) → suc b.high ≡ suc q * 2 ^ (width family - len)
    → address_block_text family b bits ≡ prefix_text (address_text family b.low) len
unfolding address_block_text
prefix-text family b zero len q le fits low high =
    let none : len ≡ zero = omega arith in
    let share : shares family b zero ≡ true =
    does-share family b zero q (subst (λ (k : ℕ). b.low ≡ q * 2 ^ (width family - k)) none low)
    (subst (λ (k : ℕ). suc b.high ≡ suc q * 2 ^ (width family - k)) none high) in
    rw (share, none) refl
prefix-text family b (suc bits) len q le fits low high = elim (split len (suc bits)) [
  | inr h ↦ (
      let same : len ≡ suc bits = omega (arith, h, le) in
      let share : shares family b (suc bits) ≡ true =
      does-share family b (suc bits) q (subst (λ (k : ℕ). b.low ≡ q * 2 ^ (width family - k)) same low)
      (subst (λ (k : ℕ). suc b.high ≡ suc q * 2 ^ (width family - k)) same high) in
      rw (share, same) refl)
  | inl h ↦ (
      let fewer : shares family b (suc bits) ≡ false =
      shares-no-more family b (suc bits) len q (omega (arith, h, le)) fits low high in
      rw fewer (prefix-text family b bits len q (omega (arith, h, le)) (omega arith) low high))
]

pub ip-block : (family : AddressFamily) (x : IpBlock) (b : Block) → IsIpBlockOf family x b
    → ip_block_text x ≡ block_text (Addresses family) b
ip-block family (PrefixBlock p) b h =
    ap (λ (t : List ℕ). prefix_text t p.len) (address-text family p.addr b.low h.addr)
    ∙ sym (prefix-text family b (width family) p.len h.shared.0 h.len (omega arith) h.shared.1 h.shared.2)
ip-block family (RangeBlock r) b h =
    ap (λ (t : List ℕ). range_text t (ip_text r.max)) (address-text family r.min b.low h.0)
    ∙ ap (λ (t : List ℕ). range_text (address_text family b.low) t) (address-text family r.max b.high h.1)
    ∙ sym (range-text family b (width family) h.2)

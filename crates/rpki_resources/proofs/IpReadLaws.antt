-- Texts of prefixes, as they are read.
use Rattle.std.proofs.Common.{◌≡◌, ◌≢◌, ◌≤◌, ◌<◌, ◌-◌, ◌%◌, ◌^◌, ℕ, zero, suc, List, [], ◌∷◌, ◌++◌, length, get_or}
use Rattle.std.proofs.Common.{take, drop, refl, sym, ap, ◌∙◌, subst, inl, inr, arith}
use Rattle.std.specs.Prelude.{Option, MatchOption, Some, None, decimal}
use Rattle.std.specs.Str.Parse.{AllDigits, without_leading_plus, digits_value}
use Rattle.std.specs.Str.Pattern.{RFindsChar, SplitsAroundMatch}
use Rattle.std.proofs.lemmas.Str.Pattern.{NoCharPasses-char, drop_at_char}
use Rattle.std.proofs.lemmas.Str.Parse.{digit_at, without_leading_plus_none}
use Rattle.std.proofs.lemmas.List.{take-append-drop}
use Rattle.std.proofs.lemmas.Bool.Decides.{eqb_tells}
use Rattle.std.proofs.NetLemmas.Theorems.{IsIpText_unique}
use Rattle.std.specs.Net.Grammar.{IsIpText}
use Rattle.std.specs.declared.net.ip_addr.IpAddr.{IpAddr}
use Rattle.std.specs.declared.net.ip_addr.IpAddr.TheVariants.{V4, V6}
use Rattle.std.specs.Net.Addr.{MatchIp, IsIpv4Addr, IsIpv6Addr, ipv4_octets, ipv6_segments}
use Rattle.std.specs.Net.Text.{ip_text}
use Rattle.std.proofs.NetLemmas.Texts.{IsDotted-ipv4_text, IsColonHex-ipv6_text}
use Rattle.std.proofs.lemmas.Fmt.{decimal_is_IsNumeral}
use denote.Ref.{Bor}
use Rattle.rpki_resources.specs.declared.ip_text.Prefix.{Prefix}
use Rattle.rpki_resources.specs.Text.{prefix_text}
use Rattle.rpki_resources.proofs.AsReadLaws.{number-first}
use Rattle.rpki_resources.specs.IpRead.{address_width, address_number, IsPrefixOfTexts, IsPrefixText}

-- the text has no such octet
abbrev pub HasNo : ℕ → List ℕ → Type 0
HasNo c text = (i : ℕ) → i < length text → get_or text i 0 ≢ c

-- what `rsplit_once` says
pub last-parts : (c : ℕ) (bs : List ℕ) (r : Option (Bor (List ℕ) × Bor (List ℕ)))
    → MatchOption r (RFindsChar c bs None) (λ x. SplitsAroundMatch (RFindsChar c) bs x.0.now x.1.now) → c < 128
    → MatchOption r (HasNo c bs) (λ x. (bs ≡ x.0.now ++ c ∷ x.1.now) × HasNo c x.1.now)
last-parts c bs None h low = λ i lt. NoCharPasses-char c bs i h low lt
last-parts c bs (Some x) h low =
    let behind = drop_at_char c bs h.0 h.1 h.2.1 low in (
      sym (take-append-drop h.0 bs) ∙ ap (λ (t : List ℕ). take h.0 bs ++ t) behind
          ∙ ap (λ (t : List ℕ). take h.0 bs ++ c ∷ t) (sym h.4) ∙ ap (λ (t : List ℕ). t ++ c ∷ x.1.now) (sym h.3),
      subst (HasNo c) (sym h.4) (λ i lt. NoCharPasses-char c (drop h.1 bs) i h.2.0 low lt),
    )

pub some-there : (c : ℕ) (low high : List ℕ) → HasNo c (low ++ c ∷ high) → ⊥
some-there c [] high h = h 0 (omega arith) refl
some-there c (d ∷ low) high h = some-there c low high (λ i lt e. h (suc i) (omega (arith, lt)) e)

-- a text is cut at its last slash in one way
pub one-cut : (c : ℕ) (xs ys us vs : List ℕ) → xs ++ c ∷ ys ≡ us ++ c ∷ vs → HasNo c ys → HasNo c vs
    → (xs ≡ us) × (ys ≡ vs)
one-cut c [] ys [] vs e p q = (refl, cc)
one-cut c [] ys (u ∷ us) vs e p q = let tail : ys ≡ us ++ c ∷ vs =
    cc in absurd (some-there c us vs (subst (HasNo c) tail p))
one-cut c (x ∷ xs) ys [] vs e p q = let tail : vs ≡ xs ++ c ∷ ys =
    cc in absurd (some-there c xs ys (subst (HasNo c) tail q))
one-cut c (x ∷ xs) ys (u ∷ us) vs e p q =
    let first : x ≡ u = cc in
    let tail : xs ++ c ∷ ys ≡ us ++ c ∷ vs = cc in
    let k = one-cut c xs ys us vs tail p q in
    (ap (λ (n : ℕ). n ∷ xs) first ∙ ap (λ (t : List ℕ). u ∷ t) k.0, k.1)

-- a number has no slash
digits-none : (ds : List ℕ) → AllDigits 10 ds → HasNo 47 ds
digits-none ds h i lt e = let within = digit_at ds i h lt in absurd (omega (arith, within, e))

pub cons-none : (c d : ℕ) (rest : List ℕ) → d ≢ c → HasNo c rest → HasNo c (d ∷ rest)
cons-none c d rest other h zero lt e = other e
cons-none c d rest other h (suc i) lt e = h i (omega arith) e

pub number-none : (text : List ℕ) → AllDigits 10 (without_leading_plus text) → HasNo 47 text
number-none [] h = λ i lt e. absurd (omega arith)
number-none (c ∷ rest) h = elim (eqb_tells c 43) [
  | inl k ↦ cons-none 47 c rest (λ e. absurd (omega (arith, k.1, e))) (digits-none rest (rw k.0 at h))
  | inr k ↦ digits-none (c ∷ rest) (rw k.0 at h)
]

-- nothing is read where the parts at the last slash make no prefix
pub no-prefix : (text low high : List ℕ) → text ≡ low ++ 47 ∷ high → HasNo 47 high
    → ((p : Prefix) → IsPrefixOfTexts low high p → ⊥)
    → (p : Prefix) → IsPrefixText text p → ⊥
no-prefix text low high e plain none p h =
    let k = one-cut 47 h.0 h.1 low high (sym h.2 ∙ e) (number-none h.1 h.3.digits.1) plain in
    none p (subst (λ (t : List ℕ). IsPrefixOfTexts low t p) k.1
    (subst (λ (t : List ℕ). IsPrefixOfTexts t h.1 p) k.0 h.3))

-- more bits than there are, or others than 0, make no prefix
module _ (address size : List ℕ) (addr : IpAddr) (len : ℕ) (is_address : IsIpText address addr)
    (is_len : len ≡ digits_value 10 (without_leading_plus size)) where
  same-address : (p : Prefix) → IsPrefixOfTexts address size p → p.addr ≡ addr
  same-address p h = IsIpText_unique address p.addr addr h.is_address is_address

  pub too-long : address_width addr < len → (p : Prefix) → IsPrefixOfTexts address size p → ⊥
  too-long more p h =
      let few : p.len ≤ address_width addr = subst (λ (a : IpAddr). p.len ≤ address_width a) (same-address p h) h.few in
      absurd (omega (arith, few, more, is_len, h.value))

  pub not-zeros : (address_number addr % 2 ^ (address_width addr - len) ≡ 0 → ⊥) → (p : Prefix)
      → IsPrefixOfTexts address size p → ⊥
  not-zeros some p h =
      let zeros : address_number addr % 2 ^ (address_width addr - p.len) ≡ 0 =
      subst (λ (a : IpAddr). address_number a % 2 ^ (address_width a - p.len) ≡ 0) (same-address p h) h.zeros in
      some (subst (λ (n : ℕ). address_number addr % 2 ^ (address_width addr - n) ≡ 0) (sym h.value ∙ sym is_len) zeros)

-- ---- what is written is read back

pub address-read-back : (a : IpAddr) → MatchIp a IsIpv4Addr IsIpv6Addr → IsIpText (ip_text a) a
address-read-back (V4 a) h = IsDotted-ipv4_text (ipv4_octets a) h.0 h.1
address-read-back (V6 a) h = IsColonHex-ipv6_text (ipv6_segments a) h.0 h.1

narrow : (a : IpAddr) → address_width a ≤ 128
narrow (V4 a) = omega arith
narrow (V6 a) = omega arith

pub prefix-read-back : (p : Prefix) → MatchIp p.addr IsIpv4Addr IsIpv6Addr → p.len ≤ address_width p.addr
    → address_number p.addr % 2 ^ (address_width p.addr - p.len) ≡ 0
    → IsPrefixText (prefix_text (ip_text p.addr) p.len) p
prefix-read-back p is few zeros =
    let most = narrow p.addr in
    let small : p.len < 2 ^ 64 = omega (arith, few, most) in
    let d = decimal_is_IsNumeral p.len small in
    let e : without_leading_plus (decimal p.len) ≡ decimal p.len =
    without_leading_plus_none (decimal p.len) (number-first p.len small) in (
      ip_text p.addr,
      decimal p.len,
      refl,
      record {
        is_address = address-read-back p.addr is;
        digits = rw e d.0;
        value =
            rw e d.1;
        few = few;
        zeros = zeros;
      },
    )

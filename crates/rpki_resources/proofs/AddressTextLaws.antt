-- A text of an address has digits, dots and colons alone, so that a hyphen or a comma parts two of them.
use Rattle.std.proofs.Common.{◌≡◌, ◌≢◌, ◌≤◌, ◌<◌, ◌^◌, ℕ, suc, Bool, true, false, List, [], ◌∷◌, ◌++◌, refl, ap, sym}
use Rattle.std.proofs.Common.{◌∙◌, subst, inl, inr, arith}
use Rattle.std.specs.Prelude.{codes, decimal, Option, Some, None, IfSome, IfNone}
use Rattle.std.proofs.NetLemmas.Theorems.{IsIpText_unique}
use Rattle.std.specs.Char.{digit_value}
use Rattle.std.specs.Str.Parse.{AllDigits}
use Rattle.std.proofs.lemmas.Fmt.{decimal_is_IsNumeral}
use Rattle.std.proofs.lemmas.Str.Parse.{digit_at}
use Rattle.std.specs.Net.Addr.{MatchIp, IsIpv4Addr, IsIpv6Addr, ipv4_octets, ipv6_segments}
use Rattle.std.specs.Net.Text.{ip_text}
use Rattle.std.specs.Net.Grammar.{IsDotted, IsGroupsAfter, IsElided, IsIpText}
use Rattle.std.specs.declared.net.ip_addr.IpAddr.{IpAddr}
use Rattle.std.specs.declared.net.ip_addr.IpAddr.TheVariants.{V4, V6}
use Rattle.rpki_resources.specs.declared.ip_text.Prefix.{Prefix}
use Rattle.rpki_resources.specs.declared.ip_text.AddressRange.{AddressRange}
use Rattle.rpki_resources.specs.declared.ip_text.IpBlock.{IpBlock}
use Rattle.rpki_resources.specs.declared.ip_text.IpBlock.TheVariants.{Range as RangeBlock}
use Rattle.rpki_resources.specs.Address.{width}
use Rattle.rpki_resources.specs.Text.{range_text, IsIpBlockOf, IsBlockOfFamily}
use Rattle.rpki_resources.specs.IpRead.{address_width, address_number, family_of, block_between, IsPrefixText}
use Rattle.rpki_resources.specs.IpRead.{IsIpRangeOfTexts, IsIpBlockText}
use Rattle.rpki_resources.proofs.AsReadLaws.{plus-plain, not-plain, one-split}
use Rattle.rpki_resources.proofs.IpReadLaws.{HasNo, cons-none, address-read-back}

pub joined-none : (c : ℕ) (xs ys : List ℕ) → HasNo c xs → HasNo c ys → HasNo c (xs ++ ys)
joined-none c [] ys h k = k
joined-none c (x ∷ xs) ys h k = cons-none c x (xs ++ ys) (h 0 (omega arith))
    (joined-none c xs ys (λ i lt e. h (suc i) (omega (arith, lt)) e) k)

-- a character that is no digit, dot or colon
module _ (c : ℕ) (other : 16 ≤ digit_value c) (below : c < 48) (no_dot : 46 ≢ c) where
  nothing : HasNo c []
  nothing = λ i lt e. absurd (omega arith)

  no-digit : (d : ℕ) → digit_value d < 16 → d ≢ c
  no-digit d h e = let k : digit_value c < 16 =
      subst (λ (n : ℕ). digit_value n < 16) e h in absurd (omega (arith, k, other))

  hex-none : (ds : List ℕ) → AllDigits 16 ds → HasNo c ds
  hex-none [] h = nothing
  hex-none (d ∷ ds) h = cons-none c d ds (no-digit d h.0) (hex-none ds h.1)

  pub decimal-none : (n : ℕ) → n < 2 ^ 64 → HasNo c (decimal n)
  decimal-none n small =
      let d = decimal_is_IsNumeral n small in
      λ i lt e. let within = digit_at (decimal n) i d.0.1 lt in absurd (omega (arith, within, e, below))

  octet-none : (n : ℕ) → n < 256 → HasNo c (decimal n)
  octet-none n small = decimal-none n (omega (arith, small))

  dot : (xs ys : List ℕ) → HasNo c xs → HasNo c ys → HasNo c (xs ++ codes "." ++ ys)
  dot xs ys h k = joined-none c (xs ++ codes ".") ys (joined-none c xs (codes ".") h (cons-none c 46 [] no_dot nothing))
      k

  dotted-none : (text octets : List ℕ) → IsDotted text octets → HasNo c text
  dotted-none text octets h =
      let ab : HasNo c (decimal h.a ++ codes "." ++ decimal h.b) =
      dot (decimal h.a) (decimal h.b) (octet-none h.a h.fit.0) (octet-none h.b h.fit.1) in
      let abc : HasNo c (decimal h.a ++ codes "." ++ decimal h.b ++ codes "." ++ decimal h.c) =
      dot (decimal h.a ++ codes "." ++ decimal h.b) (decimal h.c) ab (octet-none h.c h.fit.2) in
      subst (HasNo c) (sym h.spelled) (dot (decimal h.a ++ codes "." ++ decimal h.b ++ codes "." ++ decimal h.c)
      (decimal h.d) abc (octet-none h.d h.fit.3))

  colon : HasNo c (codes ":")
  colon = cons-none c 58 [] (λ e. absurd (omega (arith, e, below))) nothing

  groups-none : (ipv4 : Bool) (lead text segments : List ℕ) → HasNo c lead → IsGroupsAfter ipv4 lead text segments
      → HasNo c text
  groups-none ipv4 lead text [] g h = subst (HasNo c) (sym h) nothing
  groups-none ipv4 lead text (s ∷ segments) g (inl h) =
      subst (HasNo c) (sym h.2) (joined-none c (lead ++ h.0) h.1 (joined-none c lead h.0 g (hex-none h.0 h.3.0.0.1))
      (groups-none ipv4 (codes ":") h.1 segments colon h.4))
  groups-none ipv4 lead text (s ∷ segments) g (inr h) =
      subst (HasNo c) (sym h.3) (joined-none c lead h.0 g (dotted-none h.0 h.1 h.4))

  elided-none : (text segments : List ℕ) → IsElided text segments → HasNo c text
  elided-none text segments h =
      subst (HasNo c) (sym h.spelled)
      (joined-none c (h.head_text ++ codes "::") h.tail_text
      (joined-none c h.head_text (codes "::") (groups-none false [] h.head_text h.head nothing h.head_groups)
      (cons-none c 58 (codes ":") (λ e. absurd (omega (arith, e, below))) colon))
      (groups-none true [] h.tail_text h.tail nothing h.tail_groups))

  pub address-lacks : (text : List ℕ) (a : IpAddr) → IsIpText text a → HasNo c text
  address-lacks text (V4 a) h = dotted-none text (ipv4_octets a) h
  address-lacks text (V6 a) (inl h) = groups-none true [] text (ipv6_segments a) nothing h.0
  address-lacks text (V6 a) (inr h) = elided-none text (ipv6_segments a) h

pub address-none : (text : List ℕ) (a : IpAddr) → IsIpText text a → HasNo 45 text
address-none = address-lacks 45 (omega arith) (omega arith) (λ e. absurd (omega (arith, e)))

pub prefix-none : (text : List ℕ) (p : Prefix) → IsPrefixText text p → HasNo 45 text
prefix-none text p h =
    subst (HasNo 45) (sym h.2) (joined-none 45 h.0 (47 ∷ h.1) (address-none h.0 p.addr h.3.is_address)
    (cons-none 45 47 h.1 (λ e. absurd (omega (arith, e))) (plus-plain h.1 h.3.digits.1)))

-- nothing is read where the parts at the hyphen make no block
pub no-range : (text low high : List ℕ) → text ≡ low ++ 45 ∷ high → HasNo 45 low
    → ((b : IpBlock) → IsIpRangeOfTexts low high b → ⊥) → (b : IpBlock) → IsIpBlockText text b → ⊥
no-range text low high e plain none b (inl h) = not-plain low high (subst (HasNo 45) e (prefix-none text h.0 h.1))
no-range text low high e plain none b (inr (inl h)) =
    not-plain low high (subst (HasNo 45) e (address-none text h.0 h.1))
no-range text low high e plain none b (inr (inr h)) =
    let k = one-split h.0 h.1 low high (sym h.2 ∙ e) (address-none h.0 h.3.low h.3.is_low) plain in
    none b (subst (λ (t : List ℕ). IsIpRangeOfTexts low t b) k.1
    (subst (λ (t : List ℕ). IsIpRangeOfTexts t h.1 b) k.0 h.3))

pub no-block-alone : (text : List ℕ) → HasNo 45 text → ((p : Prefix) → IsPrefixText text p → ⊥)
    → ((a : IpAddr) → IsIpText text a → ⊥) → (b : IpBlock) → IsIpBlockText text b → ⊥
no-block-alone text plain no_prefix no_address b (inl h) = no_prefix h.0 h.1
no-block-alone text plain no_prefix no_address b (inr (inl h)) = no_address h.0 h.1
no-block-alone text plain no_prefix no_address b (inr (inr h)) = not-plain h.0 h.1 (subst (HasNo 45) h.2 plain)

-- ---- two addresses

family-width : (a : IpAddr) → address_width a ≡ width (family_of a)
family-width (V4 a) = refl
family-width (V6 a) = refl

same-family : (a b : IpAddr) → address_width b ≡ address_width a → family_of b ≡ family_of a
same-family (V4 a) (V4 b) e = refl
same-family (V4 a) (V6 b) e = absurd (omega (arith, e))
same-family (V6 a) (V4 b) e = absurd (omega (arith, e))
same-family (V6 a) (V6 b) e = refl

module _ (low high : List ℕ) (min max : IpAddr) (is_low : IsIpText low min) (is_high : IsIpText high max) where
  pub other-width : address_width max ≢ address_width min → (b : IpBlock) → IsIpRangeOfTexts low high b → ⊥
  other-width differ b r =
      differ (ap address_width (sym (IsIpText_unique high r.high max r.is_high is_high)) ∙ family-width r.high
      ∙ ap width r.one_family ∙ sym (family-width r.low)
      ∙ ap address_width (IsIpText_unique low r.low min r.is_low is_low))

  pub range-some : (r : Option IpBlock) → address_width max ≡ address_width min
      → IfSome r (λ b. IsIpBlockOf (family_of min) b (block_between min max))
      → IfSome r (λ _. IsBlockOfFamily (family_of min) (block_between min max))
      → IfSome r (λ b. IsIpRangeOfTexts low high b)
  range-some None e h k = tt
  range-some (Some b) e h k = record {
    low = min;
    high = max;
    is_low = is_low;
    is_high = is_high;
    one_family =
        same-family min max e;
    order = k.0;
    is_block = h;
  }

  pub range-none : (r : Option IpBlock) → address_width max ≡ address_width min
      → address_number max < 2 ^ address_width max
      → IfNone r (IsBlockOfFamily (family_of min) (block_between min max) → ⊥)
      → IfNone r ((b : IpBlock) → IsIpRangeOfTexts low high b → ⊥)
  range-none (Some b) e below h = tt
  range-none None e below h = λ b r.
      let first = IsIpText_unique low r.low min r.is_low is_low in
      let last = IsIpText_unique high r.high max r.is_high is_high in
      let order : address_number min ≤ address_number max =
      subst (λ (a : IpAddr). address_number min ≤ address_number a) last
      (subst (λ (a : IpAddr). address_number a ≤ address_number r.high) first r.order) in
      h (order, subst (λ (n : ℕ). address_number max < 2 ^ n) (e ∙ family-width min) below)

-- ---- what is written is read back

pub range-read-back : (r : AddressRange) → MatchIp r.min IsIpv4Addr IsIpv6Addr → MatchIp r.max IsIpv4Addr IsIpv6Addr
    → family_of r.max ≡ family_of r.min
    → address_number r.min ≤ address_number r.max
    → IsIpBlockOf (family_of r.min) (RangeBlock r) (block_between r.min r.max)
    → IsIpBlockText (range_text (ip_text r.min) (ip_text r.max)) (RangeBlock r)
range-read-back r is_min is_max family order block =
    inr (inr (
      ip_text r.min,
      ip_text r.max,
      refl,
      record {
        low = r.min;
        high = r.max;
        is_low = address-read-back r.min is_min;
        is_high =
            address-read-back r.max is_max;
        one_family = family;
        order = order;
        is_block = block;
      },
    ))

-- What is written of a list of blocks is read back.
use Rattle.std.proofs.Common.{◌≡◌, ◌≢◌, ◌≤◌, ◌<◌, ◌^◌, inl, inr, ℕ, zero, suc, Bool, true, false, List, [], ◌∷◌, ◌++◌}
use Rattle.std.proofs.Common.{length, map, get_or, refl, sym, ap, ◌∙◌, subst, append_assoc, arith}
use Rattle.std.specs.Prelude.{◌==◌, ◌&&◌, cond, codes, decimal}
use Rattle.std.specs.List.{AllByRecursion, join_by, onto_first}
use Rattle.std.specs.Char.{is_whitespace, digit_value}
use Rattle.std.specs.Str.Parse.{AllDigits}
use Rattle.std.specs.Net.Addr.{ipv4_octets, ipv6_segments}
use Rattle.std.specs.Net.Text.{ip_text}
use Rattle.std.specs.Net.Grammar.{IsDotted, IsGroupsAfter, IsElided, IsIpText}
use Rattle.std.specs.declared.net.ip_addr.IpAddr.{IpAddr}
use Rattle.std.specs.declared.net.ip_addr.IpAddr.TheVariants.{V4, V6}
use Rattle.std.specs.Str.{trim, trim_start, trim_end, skip_leading_whitespace, drop_trailing_whitespace}
use Rattle.std.specs.Str.{encode_utf8_all, IsAscii}
use Rattle.std.proofs.lemmas.Str.{chars-IsAscii, encodes-IsAscii}
use Rattle.std.proofs.lemmas.Str.Parse.{digit_at}
use Rattle.std.proofs.lemmas.Fmt.{decimal_is_IsNumeral}
use Rattle.std.proofs.lemmas.List.{append-nil}
use Rattle.std.proofs.lemmas.List.Splits.{slice_split-cons_yes, slice_split-cons_no}
use Rattle.std.proofs.lemmas.Bool.Decides.{eqb_tells}
use Rattle.rpki_resources.specs.declared.block.Block.{Block}
use Rattle.rpki_resources.specs.declared.as_text.AsBlock.{AsBlock}
use Rattle.rpki_resources.specs.declared.as_text.AsBlock.TheVariants.{Id, Range}
use Rattle.rpki_resources.specs.declared.family.AddressFamily.{AddressFamily}
use Rattle.rpki_resources.specs.declared.ip_text.IpBlock.{IpBlock}
use Rattle.rpki_resources.specs.declared.ip_text.IpBlock.TheVariants.{Prefix as PrefixBlock, Range as RangeBlock}
use Rattle.rpki_resources.specs.declared.kind.ResourceKind.{ResourceKind}
use Rattle.rpki_resources.specs.declared.kind.ResourceKind.TheVariants.{Addresses, AsNumbers}
use Rattle.rpki_resources.specs.Blocks.{AreCanonical, AreNumbersOf}
use Rattle.rpki_resources.specs.Encoded.{IsBlockOf, AreBlocksOf}
use Rattle.rpki_resources.specs.Text.{as_number_text, as_block_text, range_text, prefix_text, ip_block_text}
use Rattle.rpki_resources.specs.Text.{IsAsBlockOf}
use Rattle.rpki_resources.specs.AsRead.{IsAsBlockText}
use Rattle.rpki_resources.specs.IpRead.{address_width, IsPrefixText}
use Rattle.rpki_resources.specs.ListText.{block_text, blocks_text}
use Rattle.rpki_resources.specs.ListRead.{as_numbers, ip_numbers, IsWholeBlock, parts_at_commas, IsBlockText}
use Rattle.rpki_resources.specs.ListRead.{AreBlockTexts, IsBlocksText}
use Rattle.rpki_resources.specs.ListRead.IsBlocksText.{Blank, Listed}
use Rattle.rpki_resources.proofs.BlocksLaws.{split, same-block}
use Rattle.rpki_resources.proofs.IpReadLaws.{HasNo, cons-none, address-read-back, prefix-read-back}
use Rattle.rpki_resources.proofs.AsReadLaws.{block-read-back}
use Rattle.rpki_resources.proofs.AddressTextLaws.{range-read-back}
use Rattle.rpki_resources.proofs.ListTextLaws.{as-block}
use Rattle.rpki_resources.proofs.ListReadLaws.{one-part}

-- ---- the signs that blocks are written with: no comma, and no white space

pub data AreSigns : List ℕ → Type 0 where
  None : AreSigns []
  More : (c : ℕ) (cs : List ℕ) → 45 ≤ c → c ≤ 122 → AreSigns cs → AreSigns (c ∷ cs)

pub both-signs : (xs ys : List ℕ) → AreSigns xs → AreSigns ys → AreSigns (xs ++ ys)
both-signs [] ys h k = k
both-signs (x ∷ xs) ys (More _ _ low high h) k = More x (xs ++ ys) low high (both-signs xs ys h k)

no-comma : (cs : List ℕ) → AreSigns cs → HasNo 44 cs
no-comma [] h = λ i lt e. absurd (omega arith)
no-comma (c ∷ cs) (More _ _ low high h) = cons-none 44 c cs (λ e. absurd (omega (arith, low, e))) (no-comma cs h)

digits-signs : (ds : List ℕ) → ((i : ℕ) → i < length ds → (48 ≤ get_or ds i 0) × (get_or ds i 0 ≤ 57)) → AreSigns ds
digits-signs [] h = None
digits-signs (d ∷ ds) h =
    let first = h 0 (omega arith) in
    More d ds (omega (arith, first)) (omega (arith, first)) (digits-signs ds (λ i lt. h (suc i) (omega (arith, lt))))

pub decimal-signs : (n : ℕ) → n < 2 ^ 64 → AreSigns (decimal n)
decimal-signs n small =
    let d = decimal_is_IsNumeral n small in
    digits-signs (decimal n) (λ i lt. let within =
    digit_at (decimal n) i d.0.1 lt in (omega (arith, within), omega (arith, within)))

-- ---- white space around

pub data AreLow : List ℕ → Type 0 where
  Empty : AreLow []
  Next : (c : ℕ) (cs : List ℕ) → c < 128 → AreLow cs → AreLow (c ∷ cs)

low-signs : (cs : List ℕ) → AreSigns cs → AreLow cs
low-signs [] h = Empty
low-signs (c ∷ cs) (More _ _ low high h) = Next c cs (omega (arith, high)) (low-signs cs h)

both-low : (xs ys : List ℕ) → AreLow xs → AreLow ys → AreLow (xs ++ ys)
both-low [] ys h k = k
both-low (x ∷ xs) ys (Next _ _ low h) k = Next x (xs ++ ys) low (both-low xs ys h k)

ascii : (cs : List ℕ) → AreLow cs → IsAscii cs
ascii [] h i = omega arith
ascii (c ∷ cs) (Next _ _ low h) zero = low
ascii (c ∷ cs) (Next _ _ low h) (suc i) = ascii cs h i

dark : (c : ℕ) → 45 ≤ c → c ≤ 122 → is_whitespace c ≡ false
dark c low high = grind arith

front-kept : (cs : List ℕ) → AreSigns cs → skip_leading_whitespace cs ≡ cs
front-kept [] h = refl
front-kept (c ∷ cs) (More _ _ low high h) = rw (dark c low high) refl

back-kept : (cs : List ℕ) → AreSigns cs → drop_trailing_whitespace cs ≡ cs
back-kept [] h = refl
back-kept (c ∷ cs) (More _ _ low high h) = rw (dark c low high) (ap (λ (t : List ℕ). c ∷ t) (back-kept cs h))

start-kept : (cs : List ℕ) → AreSigns cs → trim_start cs ≡ cs
unfolding trim_start
start-kept cs h = ap (λ (t : List ℕ). encode_utf8_all (skip_leading_whitespace t))
    (chars-IsAscii cs (ascii cs (low-signs cs h))) ∙ ap encode_utf8_all (front-kept cs h)
    ∙ encodes-IsAscii cs (ascii cs (low-signs cs h))

start-cut : (cs : List ℕ) → AreSigns cs → trim_start (32 ∷ cs) ≡ cs
unfolding trim_start
start-cut cs h =
    let all : IsAscii (32 ∷ cs) = ascii (32 ∷ cs) (Next 32 cs (omega arith) (low-signs cs h)) in
    ap (λ (t : List ℕ). encode_utf8_all (skip_leading_whitespace t)) (chars-IsAscii (32 ∷ cs) all)
    ∙ ap encode_utf8_all (front-kept cs h) ∙ encodes-IsAscii cs (ascii cs (low-signs cs h))

end-kept : (cs : List ℕ) → AreSigns cs → trim_end cs ≡ cs
unfolding trim_end
end-kept cs h = ap (λ (t : List ℕ). encode_utf8_all (drop_trailing_whitespace t))
    (chars-IsAscii cs (ascii cs (low-signs cs h))) ∙ ap encode_utf8_all (back-kept cs h)
    ∙ encodes-IsAscii cs (ascii cs (low-signs cs h))

pub trimmed : (cs : List ℕ) → AreSigns cs → trim cs ≡ cs
trimmed cs h = ap trim_end (start-kept cs h) ∙ end-kept cs h

pub trimmed-behind : (cs : List ℕ) → AreSigns cs → trim (32 ∷ cs) ≡ cs
trimmed-behind cs h = ap trim_end (start-cut cs h) ∙ end-kept cs h

-- a text with a sign at its front is not blank
start-left : (c : ℕ) (cs : List ℕ) → 45 ≤ c → c ≤ 122 → AreLow (c ∷ cs) → trim_start (c ∷ cs) ≡ c ∷ cs
unfolding trim_start
start-left c cs low high h =
    let front : skip_leading_whitespace (c ∷ cs) ≡ c ∷ cs = rw (dark c low high) refl in
    ap (λ (t : List ℕ). encode_utf8_all (skip_leading_whitespace t)) (chars-IsAscii (c ∷ cs) (ascii (c ∷ cs) h))
    ∙ ap encode_utf8_all front ∙ encodes-IsAscii (c ∷ cs) (ascii (c ∷ cs) h)

low-end : (cs : List ℕ) → AreLow cs → AreLow (drop_trailing_whitespace cs)
low-end [] h = Empty
low-end (c ∷ cs) (Next _ _ low h) = one-end c (is_whitespace c && length (drop_trailing_whitespace cs) == 0)
    (drop_trailing_whitespace cs) low (low-end cs h)
  where
    one-end : (c : ℕ) (b : Bool) (rest : List ℕ) → c < 128 → AreLow rest → AreLow (cond b [] (c ∷ rest))
    one-end c true rest low h = Empty
    one-end c false rest low h = Next c rest low h

end-left : (c : ℕ) (cs : List ℕ) → 45 ≤ c → c ≤ 122 → AreLow (c ∷ cs)
    → trim_end (c ∷ cs) ≡ c ∷ drop_trailing_whitespace cs
unfolding trim_end
end-left c cs low high (Next _ _ small h) =
    let all : AreLow (c ∷ cs) = Next c cs small h in
    let back : drop_trailing_whitespace (c ∷ cs) ≡ c ∷ drop_trailing_whitespace cs = rw (dark c low high) refl in
    let left : AreLow (c ∷ drop_trailing_whitespace cs) = Next c (drop_trailing_whitespace cs) small (low-end cs h) in
    ap (λ (t : List ℕ). encode_utf8_all (drop_trailing_whitespace t)) (chars-IsAscii (c ∷ cs) (ascii (c ∷ cs) all))
    ∙ ap encode_utf8_all back
    ∙ encodes-IsAscii (c ∷ drop_trailing_whitespace cs) (ascii (c ∷ drop_trailing_whitespace cs) left)

some-left : (front text : List ℕ) → AreSigns front → front ≢ [] → AreLow (front ++ text) → trim (front ++ text) ≡ [] → ⊥
some-left [] text h some low e = some refl
some-left (c ∷ front) text (More _ _ least most h) some low e =
    let k : trim (c ∷ (front ++ text)) ≡ c ∷ drop_trailing_whitespace (front ++ text) =
    ap trim_end (start-left c (front ++ text) least most low) ∙ end-left c (front ++ text) least most low in
    let no : ⊥ = cc in
    no

no-numbers : (found : List Block) → AreNumbersOf [] found → found ≡ []
no-numbers [] h = refl
no-numbers (b ∷ bs) h = absurd ((h.numbers b.low).0 (inl (omega arith, h.canonical.0)))

-- ---- parts

pub first-cut : (xs ys : List ℕ) → HasNo 44 xs → parts_at_commas (xs ++ 44 ∷ ys) ≡ xs ∷ parts_at_commas ys
first-cut [] ys h = slice_split-cons_yes (λ c. c == 44) 44 ys refl
first-cut (x ∷ xs) ys h = elim (eqb_tells x 44) [
  | inl k ↦ absurd (h 0 (omega arith) k.1)
  | inr k ↦ slice_split-cons_no (λ c. c == 44) x (xs ++ 44 ∷ ys) k.0
      ∙ ap (onto_first x) (first-cut xs ys (λ i lt e. h (suc i) (omega (arith, lt)) e))
]

module _ (kind : ResourceKind) {X : Type 0} (shown : X → List ℕ) (numbers : X → Block) (IsWhole : X → Type 0)
    (each : (x : X) → IsWhole x → AreSigns (shown x) × IsBlockText kind (shown x) (numbers x)) where
  no-comma-behind : (lead cs : List ℕ) → HasNo 44 lead → AreSigns cs → HasNo 44 (lead ++ cs)
  no-comma-behind [] cs h k = no-comma cs k
  no-comma-behind (c ∷ lead) cs h k = cons-none 44 c (lead ++ cs) (h 0 (omega arith))
      (no-comma-behind lead cs (λ i lt e. h (suc i) (omega (arith, lt)) e) k)

  space : HasNo 44 (32 ∷ [])
  space = cons-none 44 32 [] (λ e. absurd (omega (arith, e))) (λ i lt e. absurd (omega arith))

  all-parts : (lead : List ℕ) → HasNo 44 lead → ((cs : List ℕ) → AreSigns cs → trim (lead ++ cs) ≡ cs)
      → (x : X) (xs : List X) → AllByRecursion IsWhole (x ∷ xs)
      → AreBlockTexts kind (parts_at_commas (lead ++ join_by shown (codes ", ") (x ∷ xs))) (map numbers (x ∷ xs))
  all-parts lead none trims x [] h =
      let k : AreSigns (shown x) × IsBlockText kind (shown x) (numbers x) = each x h.0 in
      let e : join_by shown (codes ", ") (x ∷ []) ≡ shown x = append-nil (shown x) in
      rw (e, one-part (lead ++ shown x) (no-comma-behind lead (shown x) none k.0)) (rw (trims (shown x) k.0) k.1, tt)
  all-parts lead none trims x (y ∷ ys) h =
      let k : AreSigns (shown x) × IsBlockText kind (shown x) (numbers x) = each x h.0 in
      let e : parts_at_commas (lead ++ join_by shown (codes ", ") (x ∷ y ∷ ys))
      ≡ (lead ++ shown x) ∷ parts_at_commas (32 ∷ join_by shown (codes ", ") (y ∷ ys)) =
      ap parts_at_commas (sym (append_assoc lead (shown x) (44 ∷ 32 ∷ join_by shown (codes ", ") (y ∷ ys))))
      ∙ first-cut (lead ++ shown x) (32 ∷ join_by shown (codes ", ") (y ∷ ys))
      (no-comma-behind lead (shown x) none k.0) in
      rw e (rw (trims (shown x) k.0) k.1, all-parts (32 ∷ []) space trimmed-behind y ys h.1)

  low-list : (x : X) (xs : List X) → AllByRecursion IsWhole (x ∷ xs) → AreLow (join_by shown (codes ", ") (x ∷ xs))
  low-list x [] h = subst AreLow (sym (append-nil (shown x))) (low-signs (shown x) ((each x h.0).0))
  low-list x (y ∷ ys) h =
      both-low (shown x) (44 ∷ 32 ∷ join_by shown (codes ", ") (y ∷ ys)) (low-signs (shown x) ((each x h.0).0))
      (Next 44 (32 ∷ join_by shown (codes ", ") (y ∷ ys)) (omega arith)
      (Next 32 (join_by shown (codes ", ") (y ∷ ys)) (omega arith) (low-list y ys h.1)))

  pub list-read-back : (xs : List X) (found : List Block) → ((x : X) → IsWhole x → shown x ≢ [])
      → AllByRecursion IsWhole xs → AreNumbersOf (map numbers xs) found
      → IsBlocksText kind (join_by shown (codes ", ") xs) found
  list-read-back [] found some h is = Blank (trimmed [] None) (no-numbers found is)
  list-read-back (x ∷ xs) found some h is =
      Listed (map numbers (x ∷ xs)) (some-left (shown x) _ ((each x h.0).0) (some x h.0) (low-list x xs h))
      (all-parts [] (λ i lt e. absurd (omega arith)) trimmed x xs h) is

-- ---- AS numbers

as-number-signs : (n : ℕ) → n < 2 ^ 32 → AreSigns (as_number_text n)
as-number-signs n small =
    More 65 (83 ∷ decimal n) (omega arith) (omega arith)
    (More 83 (decimal n) (omega arith) (omega arith) (decimal-signs n (omega (arith, small))))

range-signs : (xs ys : List ℕ) → AreSigns xs → AreSigns ys → AreSigns (range_text xs ys)
range-signs xs ys h k = both-signs xs (45 ∷ ys) h (More 45 ys (omega arith) (omega arith) k)

as-signs : (x : AsBlock) (b : Block) → IsAsBlockOf x b → AreSigns (as_block_text x)
as-signs (Id a) b h = as-number-signs a.0 (omega (arith, h))
as-signs (Range r) b h =
    range-signs (as_number_text r.min.0) (as_number_text r.max.0) (as-number-signs r.min.0 (omega (arith, h)))
    (as-number-signs r.max.0 (omega (arith, h)))

as-same : (x : AsBlock) (b : Block) → IsAsBlockOf x b → b ≡ as_numbers x
as-same (Id a) b h = same-block b (as_numbers (Id a)) h.0 h.1
as-same (Range r) b h = same-block b (as_numbers (Range r)) h.0 h.1

as-of : (x : AsBlock) (b : Block) → IsAsBlockOf x b
    → AreSigns (block_text AsNumbers b) × IsBlockText AsNumbers (block_text AsNumbers b) b
as-of x b h =
    let e : as_block_text x ≡ block_text AsNumbers b = as-block x b h in (
      subst AreSigns e (as-signs x b h),
      (
        x,
        subst (λ (t : List ℕ). IsAsBlockText t x) e (block-read-back x b h),
        as-same x b h,
      ),
    )

as-written : (b : Block) → IsBlockOf AsNumbers b
    → AreSigns (block_text AsNumbers b) × IsBlockText AsNumbers (block_text AsNumbers b) b
as-written b h = elim (split b.low b.high) [
  | inl k ↦ as-of (Range (record { min = record { 0 = b.low }; max = record { 0 = b.high } })) b
      (refl, refl, omega (arith, k), omega (arith, h))
  | inr k ↦ as-of (Id (record { 0 = b.low })) b (refl, omega (arith, h, k), omega (arith, h))
]

as-some : (b : Block) → IsBlockOf AsNumbers b → block_text AsNumbers b ≢ []
as-some b h e = elim (split b.low b.high) [
  | inl k ↦ (
      let t = as-block (Range (record { min = record { 0 = b.low }; max = record { 0 = b.high } })) b
      (refl, refl, omega (arith, k), omega (arith, h)) in
      let no : ⊥ = cc in no)
  | inr k ↦ (
      let t = as-block (Id (record { 0 = b.low })) b (refl, omega (arith, h, k), omega (arith, h)) in
      let no : ⊥ = cc in no)
]

each-block : (bs : List Block) → AreBlocksOf AsNumbers bs → AllByRecursion (IsBlockOf AsNumbers) bs
each-block [] h = tt
each-block (b ∷ bs) h = (h.0, each-block bs h.1)

same-list : (bs : List Block) → map (λ b. b) bs ≡ bs
same-list [] = refl
same-list (b ∷ bs) = ap (λ (rest : List Block). b ∷ rest) (same-list bs)

pub as-list-read-back : (bs : List Block) → AreCanonical bs → AreBlocksOf AsNumbers bs
    → IsBlocksText AsNumbers (blocks_text AsNumbers bs) bs
as-list-read-back bs c h =
    list-read-back AsNumbers (block_text AsNumbers) (λ b. b) (IsBlockOf AsNumbers) as-written bs bs as-some
    (each-block bs h)
    (record { numbers = λ n. rw (same-list bs) ((λ x. x), (λ x. x)); canonical = c })

-- ---- addresses

hex-sign : (d : ℕ) → digit_value d < 16 → (45 ≤ d) × (d ≤ 122)
hex-sign d h = grind arith

hex-signs : (ds : List ℕ) → AllDigits 16 ds → AreSigns ds
hex-signs [] h = None
hex-signs (d ∷ ds) h = let k = hex-sign d h.0 in More d ds k.0 k.1 (hex-signs ds h.1)

octet-signs : (n : ℕ) → n < 256 → AreSigns (decimal n)
octet-signs n small = decimal-signs n (omega (arith, small))

dot-signs : (xs ys : List ℕ) → AreSigns xs → AreSigns ys → AreSigns (xs ++ codes "." ++ ys)
dot-signs xs ys h k = both-signs (xs ++ codes ".") ys
    (both-signs xs (codes ".") h (More 46 [] (omega arith) (omega arith) None)) k

dotted-signs : (text octets : List ℕ) → IsDotted text octets → AreSigns text
dotted-signs text octets h =
    let ab : AreSigns (decimal h.a ++ codes "." ++ decimal h.b) =
    dot-signs (decimal h.a) (decimal h.b) (octet-signs h.a h.fit.0) (octet-signs h.b h.fit.1) in
    let abc : AreSigns (decimal h.a ++ codes "." ++ decimal h.b ++ codes "." ++ decimal h.c) =
    dot-signs (decimal h.a ++ codes "." ++ decimal h.b) (decimal h.c) ab (octet-signs h.c h.fit.2) in
    subst AreSigns (sym h.spelled) (dot-signs (decimal h.a ++ codes "." ++ decimal h.b ++ codes "." ++ decimal h.c)
    (decimal h.d) abc (octet-signs h.d h.fit.3))

colon-sign : AreSigns (codes ":")
colon-sign = More 58 [] (omega arith) (omega arith) None

groups-signs : (ipv4 : Bool) (lead text segments : List ℕ) → AreSigns lead → IsGroupsAfter ipv4 lead text segments
    → AreSigns text
groups-signs ipv4 lead text [] g h = subst AreSigns (sym h) None
groups-signs ipv4 lead text (s ∷ segments) g (inl h) =
    subst AreSigns (sym h.2) (both-signs (lead ++ h.0) h.1 (both-signs lead h.0 g (hex-signs h.0 h.3.0.0.1))
    (groups-signs ipv4 (codes ":") h.1 segments colon-sign h.4))
groups-signs ipv4 lead text (s ∷ segments) g (inr h) =
    subst AreSigns (sym h.3) (both-signs lead h.0 g (dotted-signs h.0 h.1 h.4))

elided-signs : (text segments : List ℕ) → IsElided text segments → AreSigns text
elided-signs text segments h =
    subst AreSigns (sym h.spelled)
    (both-signs (h.head_text ++ codes "::") h.tail_text
    (both-signs h.head_text (codes "::") (groups-signs false [] h.head_text h.head None h.head_groups)
    (More 58 (codes ":") (omega arith) (omega arith) colon-sign))
    (groups-signs true [] h.tail_text h.tail None h.tail_groups))

address-signs : (text : List ℕ) (a : IpAddr) → IsIpText text a → AreSigns text
address-signs text (V4 a) h = dotted-signs text (ipv4_octets a) h
address-signs text (V6 a) (inl h) = groups-signs true [] text (ipv6_segments a) None h.0
address-signs text (V6 a) (inr h) = elided-signs text (ipv6_segments a) h

narrow : (a : IpAddr) → address_width a ≤ 128
narrow (V4 a) = omega arith
narrow (V6 a) = omega arith

ip-written : (family : AddressFamily) (x : IpBlock) → IsWholeBlock family x
    → AreSigns (ip_block_text x) × IsBlockText (Addresses family) (ip_block_text x) (ip_numbers x)
ip-written family (PrefixBlock p) h =
    let most = narrow p.addr in
    let is : IsPrefixText (prefix_text (ip_text p.addr) p.len) p = prefix-read-back p h.1.address h.1.few h.1.zeros in (
      both-signs (ip_text p.addr) (47 ∷ decimal p.len)
          (address-signs (ip_text p.addr) p.addr (address-read-back p.addr h.1.address))
          (More 47 (decimal p.len) (omega arith) (omega arith) (decimal-signs p.len (omega (arith, most, h.1.few)))),
      (PrefixBlock p, inl (p, is, refl), h.0, refl),
    )
ip-written family (RangeBlock r) h = (
  range-signs (ip_text r.min) (ip_text r.max) (address-signs (ip_text r.min) r.min (address-read-back r.min h.1.min))
      (address-signs (ip_text r.max) r.max (address-read-back r.max h.1.max)),
  (RangeBlock r, range-read-back r h.1.min h.1.max h.1.one_family h.1.order h.1.is_block, h.0, refl),
)

behind-some : (xs ys : List ℕ) (y : ℕ) → xs ++ y ∷ ys ≢ []
behind-some [] ys y e = let no : ⊥ = cc in no
behind-some (x ∷ xs) ys y e = let no : ⊥ = cc in no

ip-some : (family : AddressFamily) (x : IpBlock) → IsWholeBlock family x → ip_block_text x ≢ []
ip-some family (PrefixBlock p) h = behind-some (ip_text p.addr) (decimal p.len) 47
ip-some family (RangeBlock r) h = behind-some (ip_text r.min) (ip_text r.max) 45

pub ip-list-read-back : (family : AddressFamily) (xs : List IpBlock) (found : List Block)
    → AllByRecursion (IsWholeBlock family) xs → AreNumbersOf (map ip_numbers xs) found
    → IsBlocksText (Addresses family) (join_by ip_block_text (codes ", ") xs) found
ip-list-read-back family xs found h is = list-read-back (Addresses family) ip_block_text ip_numbers
    (IsWholeBlock family) (ip-written family) xs found (ip-some family) h is

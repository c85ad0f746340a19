-- What the function finds of a route origin attestation is one, in the words of its grammar.
use Rattle.std.proofs.Common.{◌≡◌, ◌≢◌, ◌≤◌, ◌^◌, ◌+◌, ◌-◌, ◌*◌, ◌%◌, ◌/◌, ◌∙◌, ℕ, zero, suc, Bool, true, false, List}
use Rattle.std.proofs.Common.{[], ◌∷◌, Option, None, Some, Ok, if◌then◌else◌, refl, sym, ap, subst, arith, length}
use Rattle.std.proofs.Common.{get_or, nat_lt, nat_eq}
use Rattle.std.proofs.Math.Nat.{mul-mod_left, div-add-mod}
use Rattle.std.proofs.lemmas.Bool.{eqb-false, leb-true}
use Rattle.std.proofs.lemmas.Nat.{pow-add}
use Rattle.std.proofs.lemmas.Slice.Eq.{bytes_eq-Decides}
use Rattle.std.specs.Str.{bytes_eq}
use Rattle.rpki_der.specs.Prelude.{AreBits, Bits, IsBits, IsUnsignedBelow, Spells, bit_string, bits_of}
use Rattle.rpki_der.specs.Prelude.{end, integer, number_of, octet_string, optional_then, sequence}
use Rattle.rpki_der.specs.Number.{AreOctets}
use Rattle.rpki_der.specs.NumberLaws.{power}
use Rattle.rpki_der.proofs.StepLaws.{IsBytes}
use Rattle.rpki_parse.specs.Value.{ended, value_at}
use Rattle.rpki_parse.specs.Leaf.{below_in, bits_in, leaf_at, some_if}
use Rattle.rpki_parse.specs.Fold.{fold_n, fold_at}
use Rattle.rpki_parse.proofs.ValueLaws.{and-parts}
use Rattle.rpki_parse.proofs.LeafLaws.{Decides, contents-bytes}
use Rattle.rpki_parse.proofs.DecisionLaws.{below_decides, bits_decides}
use Rattle.rpki_parse.proofs.BackLaws.{leaf-found}
use Rattle.rpki_resources.specs.declared.address.Address.{Address}
use Rattle.rpki_resources.specs.declared.family.AddressFamily.{AddressFamily}
use Rattle.rpki_resources.specs.declared.family.AddressFamily.TheVariants.{Ipv4, Ipv6}
use Rattle.rpki_resources.specs.Address.{IsAddress, family_octets, width}
use Rattle.rpki_resources.specs.Extension.{IsFamily}
use Rattle.rpki_resources.proofs.AddressLaws.{bits-found}
use Rattle.rpki_contents.specs.declared.roa_address.RoaIpAddress.{RoaIpAddress}
use Rattle.rpki_contents.specs.declared.roa_view.RoaPart.TheVariants as P
use Rattle.rpki_contents.specs.RoaAddress.{Family, IsMaxLength, address_parts, each_address, family_parts, max_length}
use Rattle.rpki_contents.specs.RoaAddress.{parts_of, roa_address, roa_family}
use Rattle.rpki_contents.specs.Roa.{AreFamilies, Both, alone, each_family, families, together}
use Rattle.rpki_contents.specs.AspaView.{number_at}
use Rattle.rpki_contents.specs.RoaView.{AreListed, FoundRoa, IsRoaOf, Listed, blocks_at, count_at, family_at, family_in}
use Rattle.rpki_contents.specs.RoaView.{fits, in_order, listed, max_length_at, no_more, one_more, prefix_at}
use Rattle.rpki_contents.specs.RoaView.{route_origin, size_of, some_at}
use Rattle.rpki_contents.proofs.FoundLaws.{bind-ok, decided-ok, ended-ok, following, front-found, if-err, if-ok}
use Rattle.rpki_contents.proofs.FoundLaws.{in-sequence, number-found, ok-is, optional-ok, pair-ok, part-ok, such-is}
use Rattle.rpki_contents.proofs.FoundLaws.{whole, whole-found}

-- ---- the bits of a prefix

-- octets of which the last ends in zeros make a number that ends in as many
even : (m k : ℕ) (xs : List ℕ) → m * k ≡ 256 → xs ≢ [] → get_or xs (length xs - 1) 0 % m ≡ 0
    → (q : ℕ) × (number_of xs ≡ q * m)
even m k [] e some h = absurd (some refl)
even m k (x ∷ []) e some h =
    let d : m * (x / m) + x % m ≡ x = div-add-mod x m in (x / m, omega (arith, d, h))
even m k (x ∷ y ∷ ys) e some h =
    let last : length (x ∷ y ∷ ys) - 1 ≡ suc (length (y ∷ ys) - 1) = omega arith in
    let r = even m k (y ∷ ys) e (λ z. absurd (cc)) (subst (λ (i : ℕ). get_or (x ∷ y ∷ ys) i 0 % m ≡ 0) last h) in
    let p = 256 ^ length ys in
    let top : 256 ^ suc (length ys) ≡ 256 * p = power (length ys) in
    let front : x * (m * k * p) ≡ x * (256 * p) = ap (λ (z : ℕ). x * (z * p)) e in
    let all : x * 256 ^ suc (length ys) ≡ x * (256 * p) = ap (λ (z : ℕ). x * z) top in
    (x * p * k + r.0, omega (arith, front, all, r.1))

zeros : (u : ℕ) (xs : List ℕ) → AreBits (bits_of u xs) → number_of xs % 2 ^ u ≡ 0
zeros u [] legal = let none : u ≡ 0 = legal.none refl in rw none refl
zeros u (x ∷ xs) legal =
    let few = legal.few in
    let size : u + (8 - u) ≡ 8 = omega (arith, few) in
    let whole : 2 ^ (u + (8 - u)) ≡ 2 ^ u * 2 ^ (8 - u) = pow-add 2 u (8 - u) in
    let octet : 2 ^ u * 2 ^ (8 - u) ≡ 256 = sym whole ∙ ap (λ (k : ℕ). 2 ^ k) size in
    let r = even (2 ^ u) (2 ^ (8 - u)) (x ∷ xs) octet (λ z. absurd (cc)) legal.zero in
    rw r.1 (mul-mod_left r.0 (2 ^ u))

octets-of : (c : List ℕ) → IsBytes c → AreOctets c
octets-of [] h = tt
octets-of (x ∷ xs) h = (h 0, octets-of xs (λ i. h (suc i)))

abbrev address_of : Bits → Address
address_of b = record { number = number_of b.octets / 2 ^ b.unused; size = size_of b }

address-is : (w : ℕ) (b : Bits) (c : List ℕ) → IsBytes c → IsBits b c → size_of b ≤ w → IsAddress w (address_of b) c
address-is w b c bytes h few =
    let octets = (subst AreOctets h.contents (octets-of c bytes)).1 in
    let l = h.legal in
    let none = zeros b.unused b.octets l in
    record {
      bits = b;
      spelled = h;
      has = bits-found b.octets b.unused (number_of b.octets) (2 ^ b.unused) octets l.few l.none refl refl none;
      few = few;
    }

-- ---- a prefix

fits-is : (w n : ℕ) (m : Option ℕ) → fits w n m ≡ true → (n ≤ w) × IsMaxLength w n m
fits-is w n None e = (leb-true n w e, tt)
fits-is w n (Some m) e =
    let p = and-parts _ _ e in
    let low = leb-true n m p.0 in
    let high = leb-true m w p.1 in
    (omega (arith, low, high), (low, high))

length-found : (s : List ℕ) (m : Option ℕ) (r : List ℕ) → IsBytes s → max_length_at s ≡ Ok (m, r) → r ≡ []
    → (optional_then integer max_length end).spells (m, tt) s
length-found s None r b e none = optional-ok integer (leaf_at integer (below_in (2 ^ 8))) s None r e ∙ none
length-found s (Some n) r b e none =
    let q = optional-ok integer (leaf_at integer (below_in (2 ^ 8))) s (Some n) r e in
    let h = leaf-found integer (IsUnsignedBelow (2 ^ 8)) (below_in (2 ^ 8)) (below_decides (2 ^ 8)) s n r b q in
    record { first = h.front; second = r; parts = h.parts; one = h.spelled; two = none }

prefix-found : (w : ℕ) (s : List ℕ) (u : Unit {0}) (r : List ℕ) → IsBytes s → prefix_at w s ≡ Ok (u, r)
    → (x : RoaIpAddress) × Spells (roa_address w).spells s x r
unfolding prefix_at
prefix-found w s u r b e =
    let (c, q, outer, inner, f) = front-found s _ (u, r) b e in
    let a = bind-ok (leaf_at bit_string bits_in c) _ (u, r) f in
    let m = bind-ok (max_length_at a.0.1) _ (u, r) a.2 in
    let z = bind-ok (ended m.0.1) _ (u, r) m.2 in
    let k = if-ok (fits w (size_of a.0.0) m.0.0) (Ok (tt, q)) 5 (u, r) z.2 in
    let bits = leaf-found bit_string IsBits bits_in bits_decides c a.0.0 a.0.1 inner a.1 in
    let value = bits.spelled in
    let octets = contents-bytes bit_string false c value.contents a.0.1 inner
    (record { front = bits.front; parts = bits.parts; spelled = value.value }) in
    let is = fits-is w (size_of a.0.0) m.0.0 k.0 in
    let x : RoaIpAddress = record { prefix = address_of a.0.0; max_length = m.0.0 } in
    let parts : (address_parts w).spells (parts_of x) c = record {
      first = bits.front;
      second = a.0.1;
      parts = bits.parts;
      one = record {
        contents = value.contents;
        value = value.value;
        spelled = address-is w a.0.0 value.contents octets value.spelled is.0;
      };
      two = length-found a.0.1 m.0.0 m.0.1 (following inner bits) m.1 (ended-ok m.0.1 z.0 z.1);
    } in (
      x,
      subst (λ (p : List ℕ). Spells (roa_address w).spells s x p) (pair-ok k.1).1
          (such-is (in-sequence outer parts) (record { same = refl; within = is.1 })),
    )

-- ---- prefixes, in sequence

module _ (w : ℕ) where
  each-found : (fuel k : ℕ) (s : List ℕ) (u : Unit {0}) (m : ℕ) → IsBytes s
      → fold_n (λ _. prefix_at w) fuel tt k s ≡ Ok (u, m)
      → (xs : List RoaIpAddress) × (each_address w).spells xs s × (length xs + k ≡ m)
  each-found fuel k [] u m b e = let p = pair-ok e in ([], refl, omega (arith, p.1))
  each-found zero k (x ∷ xs) u m b e = absurd cc
  each-found (suc fuel) k (x ∷ xs) u m b e =
      let p = bind-ok (prefix_at w (x ∷ xs)) _ (u, m) e in
      let q = if-ok (nat_lt (length p.0.1) (suc (length xs))) (fold_n (λ _. prefix_at w) fuel tt (k + 1) p.0.1) 6 (u, m)
      p.2 in
      let h = prefix-found w (x ∷ xs) p.0.0 p.0.1 b p.1 in
      let g = each-found fuel (k + 1) p.0.1 u m (following b h.1) q.1 in
      (h.0 ∷ g.0, (p.0.1, h.1, g.1), omega (arith, g.2))

  count-found : (s : List ℕ) (m : ℕ) → IsBytes s → count_at w s ≡ Ok m
      → (xs : List RoaIpAddress) × (xs ≢ []) × AreListed w xs (listed s m)
  unfolding count_at fold_at
  count-found s m b e =
      let y = bind-ok (fold_n (λ _. prefix_at w) (length s) tt 0 s) _ m e in
      let h = each-found (length s) 0 s y.0.0 y.0.1 b y.1 in
      let k = if-err (nat_eq y.0.1 0) (Ok y.0.1) 5 m y.2 in
      let some : y.0.1 ≢ 0 = eqb-false y.0.1 0 k.0 in
      let same : y.0.1 ≡ m = ok-is _ _ k.1 in (
        h.0,
        (λ z. some (omega (arith, h.2, ap length z))),
        record { spelled = h.1; count = omega (arith, h.2, same) },
      )

-- ---- families

family-is : (f : AddressFamily) (c : List ℕ) → family_in c ≡ Some f → IsFamily f c
family-is f c e = by f (bytes_eq c (0 ∷ 1 ∷ [])) (bytes_eq c (0 ∷ 2 ∷ [])) refl refl e where
  by : (f : AddressFamily) (p q : Bool) → bytes_eq c (0 ∷ 1 ∷ []) ≡ p → bytes_eq c (0 ∷ 2 ∷ []) ≡ q
      → (if p then Some Ipv4 else some_if q Ipv6) ≡ Some f → IsFamily f c
  by Ipv4 true q a b e = (bytes_eq-Decides c (0 ∷ 1 ∷ [])).0 a
  by Ipv6 true q a b e = absurd cc
  by Ipv4 false true a b e = absurd cc
  by Ipv6 false true a b e = (bytes_eq-Decides c (0 ∷ 2 ∷ [])).0 b
  by f false false a b e = absurd cc

family-decides : Decides IsFamily family_in
family-decides = record { complete = λ f c h. rw h (again f); sound = λ f c b. family-is f c } where
  again : (f : AddressFamily) → family_in (family_octets f) ≡ Some f
  again Ipv4 = refl
  again Ipv6 = refl

abbrev IsFound : List ℕ → AddressFamily × Listed → List ℕ → Type 0
IsFound s x r = (xs : List RoaIpAddress) × Spells roa_family.spells s (x.0, xs) r × AreListed (width x.0) xs x.1

family-found : (s : List ℕ) (x : AddressFamily × Listed) (r : List ℕ) → IsBytes s → family_at s ≡ Ok (x, r)
    → IsFound s x r
unfolding family_at
family-found s x r b e =
    let (c, q, outer, inner, g) = front-found s _ (x, r) b e in
    let f = bind-ok (leaf_at octet_string family_in c) _ (x, r) g in
    let a = bind-ok (value_at sequence true f.0.1) _ (x, r) f.2 in
    let n = bind-ok (count_at (width f.0.0) a.0.0) _ (x, r) a.2 in
    let z = bind-ok (ended a.0.1) _ (x, r) n.2 in
    let name = leaf-found octet_string IsFamily family_in family-decides c f.0.0 f.0.1 inner f.1 in
    let list = whole-found f.0.1 a.0.0 a.0.1 z.0 (following inner name) a.1 z.1 in
    let h = count-found (width f.0.0) a.0.0 n.0 list.1 n.1 in
    let parts : family_parts.spells (f.0.0, h.0) c = record {
      first = name.front;
      second = f.0.1;
      parts = name.parts;
      one = name.spelled;
      two = record {
        value = h.0;
        spelled = record { contents = a.0.0; value = list.0; spelled = h.2.spelled };
        stands = (refl, h.1);
      };
    } in
    subst (λ (y : (AddressFamily × Listed) × List ℕ). IsFound s y.0 y.1) (ok-is _ _ z.2)
    (h.0, in-sequence outer parts, h.2)

-- a second one, or nothing
abbrev IsSecond : List ℕ → Option (AddressFamily × Listed) → Type 0
IsSecond s None = s ≡ []
IsSecond s (Some x) = IsFound s x []

second-found : (s : List ℕ) (y : Option (AddressFamily × Listed)) (r : List ℕ) → IsBytes s
    → one_more family_at s ≡ Ok (y, r) → r ≡ [] → IsSecond s y
second-found [] y r b e none = subst (IsSecond []) (pair-ok e).0 refl
second-found (t ∷ ts) y r b e none =
    let v = bind-ok (family_at (t ∷ ts)) _ (y, r) e in
    let p = pair-ok v.2 in
    subst (IsSecond (t ∷ ts)) p.0
    (subst (IsFound (t ∷ ts) v.0.0) (p.1 ∙ none) (family-found (t ∷ ts) v.0.0 v.0.1 b v.1))

some-ok : (s : List ℕ) (y : (AddressFamily × Listed) × List ℕ) → some_at family_at s ≡ Ok y → family_at s ≡ Ok y
some-ok [] y e = absurd cc
some-ok (t ∷ ts) y e = e

no-more-ok : (s : List ℕ) (u : Unit {0}) → no_more s ≡ Ok u → s ≡ []
no-more-ok [] u e = refl
no-more-ok (t ∷ ts) u e = absurd cc

abbrev AreBoth : Both → Listed × Listed → Type 0
AreBoth b x = AreListed 32 b.0 x.0 × AreListed 128 b.1 x.1

alone-found : (x : AddressFamily × Listed) (xs : List RoaIpAddress) → AreListed (width x.0) xs x.1
    → AreBoth (alone [] (x.0, xs)) (alone (listed [] 0) x)
alone-found (Ipv4, l) xs h = (h, record { spelled = refl; count = refl })
alone-found (Ipv6, l) xs h = (record { spelled = refl; count = refl }, h)

together-found : (strict : Bool) (x y : AddressFamily × Listed) (xs ys : List RoaIpAddress) (p : Listed × Listed)
    → AreListed (width x.0) xs x.1 → AreListed (width y.0) ys y.1 → together strict x y ≡ Some p
    → (b : Both) × (together strict (x.0, xs) (y.0, ys) ≡ Some b) × AreBoth b p
together-found strict (Ipv4, l) (Ipv4, m) xs ys p h k e = absurd cc
together-found strict (Ipv4, l) (Ipv6, m) xs ys p h k e = let is : (l, m) ≡ p = cc in ((xs, ys), refl, rw (← is) (h, k))
together-found true (Ipv6, l) (Ipv4, m) xs ys p h k e = absurd cc
together-found false (Ipv6, l) (Ipv4, m) xs ys p h k e = let is : (m, l) ≡ p = cc in ((ys, xs), refl, rw (← is) (k, h))
together-found strict (Ipv6, l) (Ipv6, m) xs ys p h k e = absurd cc

in-order : (strict : Bool) (c m : List ℕ) (x : AddressFamily × Listed) (y : Option (AddressFamily × Listed))
    (p : Listed × Listed) → IsFound c x m → IsSecond m y → in_order strict x y ≡ Some p
    → (fs : List Family) × (b : Both) × each_family.spells fs c × AreFamilies strict b fs × AreBoth b p
in-order strict c m x None p h k e =
    let is : alone (listed [] 0) x ≡ p = cc in
    let b = alone [] (x.0, h.0) in
    ((x.0, h.0) ∷ [], b, (m, h.1, k), refl, subst (AreBoth b) is (alone-found x h.0 h.2))
in-order strict c m x (Some y) p h k e =
    let t = together-found strict x y h.0 k.0 p h.2 k.2 e in
    ((x.0, h.0) ∷ (y.0, k.0) ∷ [], t.0, (m, h.1, ([], k.1, refl)), t.1, t.2)

blocks-found : (strict : Bool) (s : List ℕ) (p : Listed × Listed) (r : List ℕ) → IsBytes s
    → blocks_at strict s ≡ Ok (p, r) → (b : Both) × Spells (families strict).spells s b r × AreBoth b p
unfolding blocks_at
blocks-found strict s p r b e =
    let (c, q, outer, inner, f) = front-found s _ (p, r) b e in
    let x = bind-ok (some_at family_at c) _ (p, r) f in
    let y = bind-ok (one_more family_at x.0.1) _ (p, r) x.2 in
    let end = bind-ok (no_more y.0.1) _ (p, r) y.2 in
    let h = family-found c x.0.0 x.0.1 inner (some-ok c x.0 x.1) in
    let k = second-found x.0.1 y.0.0 y.0.1 (following inner h.1) y.1 (no-more-ok y.0.1 end.0 end.1) in
    let d = decided-ok (in_order strict x.0.0 y.0.0) p q r end.2 in
    let (fs, both, spelled, are, g) = in-order strict c x.0.1 x.0.0 y.0.0 p h k d.0 in (
      both,
      subst (λ (t : List ℕ). Spells (families strict).spells s both t) d.1 (such-is (in-sequence outer spelled) are),
      g,
    )

-- ---- the whole

pub origin_found : (strict : Bool) (s : List ℕ) → IsBytes s → (x : FoundRoa) → route_origin strict s ≡ Ok x
    → IsRoaOf strict s x
origin_found strict s b x e =
    let c = part-ok P.Attestation (value_at sequence true s) _ x e in
    let z = part-ok P.Attestation (ended c.0.1) _ x c.2 in
    let n = part-ok P.AsId (number_at c.0.0) _ x z.2 in
    let p = part-ok P.AddressBlocks (blocks_at strict n.0.1) _ x n.2 in
    let end = part-ok P.AddressBlocks (ended p.0.1) _ x p.2 in
    let outer = whole-found s c.0.0 c.0.1 z.0 b c.1 z.1 in
    let one = number-found c.0.0 n.0.0 n.0.1 outer.1 n.1 in
    let h = blocks-found strict n.0.1 p.0.0 p.0.1 (following outer.1 one) p.1 in
    let two = whole (ended-ok p.0.1 end.0 end.1) h.1 in
    subst (IsRoaOf strict s) (ok-is _ _ end.2) (record {
      prefixes = h.0;
      spelled = record {
        contents = c.0.0;
        value = outer.0;
        spelled = record { first = one.front; second = n.0.1; parts = one.parts; one = one.spelled; two = two };
      };
      v4 = h.2.0;
      v6 = h.2.1;
    })

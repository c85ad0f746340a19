-- What filters of prefixes ask, and which of them match a payload.
use Rattle.std.proofs.Common.{◌≡◌, ◌∙◌, ◌↔◌, ◌⊎◌, ◌≤◌, inl, inr, ℕ, List, [], ◌∷◌, ◌++◌, ap, refl, sym, subst, arith}
use Rattle.std.proofs.lemmas.List.Elements.{Contains-append_right}
use Rattle.std.proofs.lemmas.Map.Lookups.{exact_pairs, exact_unsigned}
use Rattle.std.specs.List.{Contains}
use Rattle.std.specs.Option.{option_cmp}
use Rattle.std.specs.Ordering.{nat_cmp, ordering_then}
use Rattle.std.specs.Prelude.{IfSome, Option, Some, None, option_map}
use Rattle.std.specs.declared.cmp.Ordering.{Ordering}
use Rattle.std.specs.declared.net.ip_addr.IpAddr.{IpAddr}
use Rattle.std.specs.declared.net.ip_addr.IpAddr.TheVariants.{V4, V6}
use Rattle.rpki_resources.specs.declared.ip_text.Prefix.{Prefix}
use Rattle.rpki_resources.specs.IpRead.{address_width, family_of}
use Rattle.rpki_payloads.specs.contracts.filter_keys.FilterKeyOrd.TheImpl as key-order
use Rattle.rpki_payloads.specs.declared.filter_keys.FilterKey.{FilterKey}
use Rattle.rpki_payloads.specs.declared.filter_keys.FilterKeys.{FilterKeys}
use Rattle.rpki_payloads.specs.declared.filter_keys.FirstBits.{FirstBits}
use Rattle.rpki_payloads.specs.declared.filters.PrefixFilter.{PrefixFilter}
use Rattle.rpki_payloads.specs.declared.timed.TimedVrp.{TimedVrp}
use Rattle.rpki_payloads.specs.declared.vrp.Vrp.{Vrp}
use Rattle.rpki_payloads.specs.Covered.{IsCoveredBy, shared_bits}
use Rattle.rpki_payloads.specs.FilterKeys.{AreKeysOf, AskFor, Asks, IsAsked, filter_key, first_bits_of}
use Rattle.rpki_payloads.specs.FilterKeys.{key_of, length_in, lengths_in}
use Rattle.rpki_payloads.specs.Filtered.{IsFiltered, IsFilteredBy, IsKept, IsKeptTimed}
use Rattle.rpki_payloads.specs.Vrp.{IsExact, prefix_of}
use Rattle.rpki_payloads.proofs.AmongLaws.{cons-cases, head-in, none-in}
use Rattle.rpki_payloads.proofs.GatheredLaws.{exact-option}

-- ---- what compares as equal is one

first-cmp : FirstBits → FirstBits → Ordering
first-cmp x y =
    ordering_then (nat_cmp x.width y.width) (ordering_then (nat_cmp x.len y.len) (nat_cmp x.bits y.bits))

exact-first : IsExact first-cmp
unfolding first-cmp
exact-first x y h =
    ap (λ (p : ℕ × (ℕ × ℕ)). record { width = p.0; len = p.1.0; bits = p.1.1 })
    (exact_pairs nat_cmp _ exact_unsigned (exact_pairs nat_cmp nat_cmp exact_unsigned exact_unsigned)
    (x.width, (x.len, x.bits)) (y.width, (y.len, y.bits)) h)

pub exact-filter-key : IsExact key-order.ghosts.cmp
unfolding first-cmp
exact-filter-key x y h =
    ap (λ (p : Option ℕ × Option FirstBits). filter_key p.0 p.1)
    (exact_pairs (option_cmp nat_cmp) (option_cmp first-cmp) (exact-option nat_cmp exact_unsigned)
    (exact-option first-cmp exact-first) (x.asn, x.first) (y.asn, y.first) h)

-- ---- lengths

lengths-some : (f : PrefixFilter) (fs : List PrefixFilter) (p : Prefix) → f.prefix ≡ Some p
    → lengths_in (f ∷ fs) ≡ p.len ∷ lengths_in fs
lengths-some f fs p e = ap (λ (q : Option Prefix). length_in q ++ lengths_in fs) e

-- their lengths, each once
pub lengths-once : (fs : List PrefixFilter) (old new : List ℕ) → old ≡ lengths_in fs
    → ((n : ℕ) → Contains new n → Contains old n) → ((n : ℕ) → Contains old n → Contains new n) → (n : ℕ)
    → Contains new n ↔ Contains (lengths_in fs) n
lengths-once fs old new is none all n = (
  λ h. subst (λ (ns : List ℕ). Contains ns n) is (none n h),
  λ h. all n (subst (λ (ns : List ℕ). Contains ns n) (sym is) h),
)

length-more : (g : PrefixFilter) (gs : List PrefixFilter) (f : PrefixFilter) (p : Prefix) → f.prefix ≡ Some p
    → (Contains gs f → Contains (lengths_in gs) p.len) → (g ≡ f) ⊎ Contains gs f → Contains (lengths_in (g ∷ gs)) p.len
length-more g gs f p e next (inl same) =
    subst (λ (ns : List ℕ). Contains ns p.len)
    (sym (lengths-some g gs p (ap (λ (k : PrefixFilter). k.prefix) same ∙ e))) (head-in p.len (lengths_in gs))
length-more g gs f p e next (inr there) =
    Contains-append_right (length_in g.prefix) (lengths_in gs) p.len (next there)

length-of : (fs : List PrefixFilter) (f : PrefixFilter) (p : Prefix) → Contains fs f → f.prefix ≡ Some p
    → Contains (lengths_in fs) p.len
length-of [] f p h e = absurd (none-in f h)
length-of (g ∷ gs) f p h e = length-more g gs f p e (λ t. length-of gs f p t e) (cons-cases g gs f h)

-- ---- prefixes that cover others, by their first bits

same-family : (a b : IpAddr) → address_width a ≡ address_width b → family_of a ≡ family_of b
same-family (V4 a) (V4 b) e = refl
same-family (V6 a) (V6 b) e = refl
same-family (V4 a) (V6 b) e = absurd (omega (arith, e))
same-family (V6 a) (V4 b) e = absurd (omega (arith, e))

same-width : (a b : IpAddr) → family_of a ≡ family_of b → address_width a ≡ address_width b
same-width (V4 a) (V4 b) e = refl
same-width (V6 a) (V6 b) e = refl
same-width (V4 a) (V6 b) e = absurd (cc)
same-width (V6 a) (V4 b) e = absurd (cc)

covered-from : (c p : Prefix) (n : ℕ) → n ≤ p.len → first_bits_of c c.len ≡ first_bits_of p n → IsCoveredBy c p
covered-from c p n le e =
    let len : c.len ≡ n = ap (λ (b : FirstBits). b.len) e in
    let bits : shared_bits c c.len ≡ shared_bits p n = ap (λ (b : FirstBits). b.bits) e in
    record {
      family = same-family c.addr p.addr (ap (λ (b : FirstBits). b.width) e);
      shorter = subst (λ (m : ℕ). m ≤ p.len) (sym len) le;
      bits = ap (shared_bits p) len ∙ sym bits;
    }

covered-to : (c p : Prefix) → IsCoveredBy c p → first_bits_of c c.len ≡ first_bits_of p c.len
covered-to c p h =
    ap (λ (w : ℕ). record { width = w; len = c.len; bits = shared_bits c c.len }) (same-width c.addr p.addr h.family)
    ∙ ap (λ (b : ℕ). record { width = address_width p.addr; len = c.len; bits = b }) (sym h.bits)

-- ---- which filters match

-- what filters with this AS number, or with none, match
abbrev Matches : List PrefixFilter → Option ℕ → Prefix → Type 0
Matches filters number p =
    (f : PrefixFilter) × Contains filters f × (f.asn ≡ number) × IfSome f.prefix (λ c. IsCoveredBy c p)

module _ (filters : List PrefixFilter) (all : FilterKeys) (h : AreKeysOf filters all) where
  without-prefix : (number : Option ℕ) (p : Prefix) → IsAsked filters (filter_key number None)
      → Matches filters number p
  without-prefix number p a = (
    a.0,
    a.1,
    ap (λ (k : FilterKey). k.asn) a.2,
    none a.0.prefix (ap (λ (k : FilterKey). k.first) a.2),
  )
    where
      none : (o : Option Prefix) → option_map (λ q. first_bits_of q q.len) o ≡ None → IfSome o (λ c. IsCoveredBy c p)
      none None e = tt
      none (Some q) e = absurd (cc)

  with-prefix : (number : Option ℕ) (p : Prefix) (n : ℕ) → n ≤ p.len
      → IsAsked filters (filter_key number (Some (first_bits_of p n))) → Matches filters number p
  with-prefix number p n le a = (
    a.0,
    a.1,
    ap (λ (k : FilterKey). k.asn) a.2,
    some a.0.prefix (ap (λ (k : FilterKey). k.first) a.2),
  )
    where
      inner : (x y : FirstBits) → Some x ≡ Some y → x ≡ y
      inner x y e = cc

      some : (o : Option Prefix) → option_map (λ q. first_bits_of q q.len) o ≡ Some (first_bits_of p n)
          → IfSome o (λ c. IsCoveredBy c p)
      some None e = absurd (cc)
      some (Some c) e = covered-from c p n le (inner (first_bits_of c c.len) (first_bits_of p n) e)

  asks-from : (number : Option ℕ) (p : Prefix) → Asks all number p → Matches filters number p
  asks-from number p (inl k) = without-prefix number p ((h.each _).0 k)
  asks-from number p (inr c) = with-prefix number p c.0 c.2.0 ((h.each _).0 c.2.1)

  asks-to : (number : Option ℕ) (p : Prefix) → Matches filters number p → Asks all number p
  asks-to number p m = by m.0.prefix refl where
    key : (o : Option Prefix) → m.0.prefix ≡ o
        → key_of m.0 ≡ filter_key number (option_map (λ q. first_bits_of q q.len) o)
    key o e =
        ap (λ (n : Option ℕ). filter_key n (option_map (λ q. first_bits_of q q.len) m.0.prefix)) m.2
        ∙ ap (λ (q : Option Prefix). filter_key number (option_map (λ r. first_bits_of r r.len) q)) e

    by : (o : Option Prefix) → m.0.prefix ≡ o → Asks all number p
    by None e = inl ((h.each _).1 (m.0, m.1, key None e))
    by (Some c) e =
        let covered : IsCoveredBy c p = subst (λ (o : Option Prefix). IfSome o (λ c. IsCoveredBy c p)) e m.3 in
        inr (
          c.len,
          (h.lens c.len).1 (length-of filters m.0 c m.1 e),
          (
            covered.shorter,
            (h.each _).1 (
              m.0,
              m.1,
              key (Some c) e
                  ∙ ap (λ (b : FirstBits). filter_key number (Some b)) (covered-to c p covered),
            ),
          ),
        )

  pub ask-is : (v : Vrp) → AskFor all v ↔ IsFiltered filters v
  ask-is v = (to, from) where
    to : AskFor all v → IsFiltered filters v
    to (inl a) =
        let m = asks-from None (prefix_of v) a in (
          m.0,
          m.1,
          record {
            prefix = m.3;
            asn = subst (λ (o : Option ℕ). IfSome o (λ n. v.as_id ≡ n)) (sym m.2) tt;
          },
        )
    to (inr a) =
        let m = asks-from (Some v.as_id) (prefix_of v) a in (
          m.0,
          m.1,
          record {
            prefix = m.3;
            asn = subst (λ (o : Option ℕ). IfSome o (λ n. v.as_id ≡ n)) (sym m.2) refl;
          },
        )

    of : (f : PrefixFilter) (o : Option ℕ) → f.asn ≡ o → Contains filters f → IsFilteredBy f v → AskFor all v
    of f None e there m = inl (asks-to None (prefix_of v) (f, there, e, m.prefix))
    of f (Some n) e there m =
        let same : v.as_id ≡ n = subst (λ (o : Option ℕ). IfSome o (λ k. v.as_id ≡ k)) e m.asn in
        inr (asks-to (Some v.as_id) (prefix_of v) (f, there, e ∙ ap Some (sym same), m.prefix))

    from : IsFiltered filters v → AskFor all v
    from x = of x.0 x.0.asn refl x.1 x.2

-- ---- what no filter matches

module _ (filters : List PrefixFilter) (all : FilterKeys) (h : AreKeysOf filters all) where
  pub kept-by : (vrps left : List Vrp) → ((v : Vrp) → Contains left v ↔ (Contains vrps v × (AskFor all v → ⊥)))
      → (v : Vrp) → Contains left v ↔ IsKept filters vrps v
  kept-by vrps left same v = (
    λ c. let k = (same v).0 c in (k.0, λ m. k.1 ((ask-is filters all h v).1 m)),
    λ k. (same v).1 (k.0, λ a. k.1 ((ask-is filters all h v).0 a)),
  )

  pub kept-timed-by : (ts left : List TimedVrp)
      → ((t : TimedVrp) → Contains left t ↔ (Contains ts t × (AskFor all t.vrp → ⊥))) → (t : TimedVrp)
      → Contains left t ↔ IsKeptTimed filters ts t
  kept-timed-by ts left same t = (
    λ c. let k = (same t).0 c in (k.0, λ m. k.1 ((ask-is filters all h t.vrp).1 m)),
    λ k. (same t).1 (k.0, λ a. k.1 ((ask-is filters all h t.vrp).0 a)),
  )

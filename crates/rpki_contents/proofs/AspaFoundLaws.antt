-- What the function finds of an attestation of providers is one, in the words of its grammar.
use Rattle.std.proofs.Common.{◌≡◌, ◌≢◌, ◌+◌, ◌++◌, ℕ, zero, suc, true, List, [], ◌∷◌, Option, None}
use Rattle.std.proofs.Common.{Some, length, Ok, Err, refl, sym, subst, arith, ◌&&◌, nat_lt, nat_eq, if◌then◌else◌}
use Rattle.std.specs.Prelude.{not}
use Rattle.std.proofs.lemmas.Bool.{eq-eqb, false≢true, ltb-true}
use Rattle.rpki_der.specs.Prelude.{integer, sequence, IsNumber, Spells}
use Rattle.rpki_der.proofs.StepLaws.{IsBytes}
use Rattle.rpki_parse.specs.Value.{ended, value_at}
use Rattle.rpki_parse.specs.Leaf.{leaf_at, number_in}
use Rattle.rpki_parse.specs.Fold.{fold_n, fold_at}
use Rattle.rpki_parse.proofs.ValueLaws.{and-parts}
use Rattle.rpki_parse.proofs.LeafLaws.{contents-bytes}
use Rattle.rpki_parse.proofs.DecisionLaws.{number_decides}
use Rattle.rpki_parse.proofs.BackLaws.{value-found, leaf-found}
use Rattle.rpki_contents.specs.Aspa.{version_tag, version, each_number, Ascend, AscendFrom, IsNoneOf}
use Rattle.rpki_contents.specs.Aspa.{AreProviders, aspa_parts, fields, fields_of}
use Rattle.rpki_contents.specs.AspaView.{FoundAspa, is_above, number_at, provider_at, providers_at, some_provider}
use Rattle.rpki_contents.specs.AspaView.{IsAspaOf, version_at, members, attestation}
use Rattle.rpki_contents.specs.declared.aspa_view.AspaPart.TheVariants as P
use Rattle.rpki_contents.proofs.FoundLaws.{bind-ok, ended-ok, following, if-ok, number-found, ok-is, pair-ok}
use Rattle.rpki_contents.proofs.FoundLaws.{part-ok, whole, whole-found}

-- numbers that may follow the last
abbrev Behind : Option ℕ → List ℕ → Type 0
Behind None ns = Ascend ns
Behind (Some last) ns = AscendFrom last ns

behind : (last : Option ℕ) (n : ℕ) (ns : List ℕ) → is_above last n ≡ true → AscendFrom n ns → Behind last (n ∷ ns)
behind None n ns e h = h
behind (Some last) n ns e h = (ltb-true last n e, h)

other : (customer n : ℕ) → not (nat_eq n customer) ≡ true → customer ≢ n
other customer n e same = absurd (false≢true (rw (eq-eqb n customer (sym same)) at e))

-- ---- providers, in sequence

record IsNext (customer : ℕ) (last next : Option ℕ) (s r : List ℕ) : Type 0 where
  number : ℕ
  read : number_at s ≡ Ok (number, r)
  above : is_above last number ≡ true
  others : customer ≢ number
  is : next ≡ Some number

next-is : (customer : ℕ) (last next : Option ℕ) (s r : List ℕ) → provider_at customer last s ≡ Ok (next, r)
    → IsNext customer last next s r
unfolding provider_at
next-is customer last next s r e =
    let b = bind-ok (number_at s)
    (λ n. if is_above last n.0 && not (nat_eq n.0 customer) then Ok (Some n.0, n.1) else Err 5) (next, r) e in
    let i = if-ok _ _ _ _ b.2 in
    let p = pair-ok i.1 in
    let k = and-parts _ _ i.0 in
    record {
      number = b.0.0;
      read = subst (λ (q : List ℕ). number_at s ≡ Ok (b.0.0, q)) p.1 b.1;
      above = k.0;
      others = other customer b.0.0 k.1;
      is = sym p.0;
    }

abbrev AreFound : ℕ → Option ℕ → ℕ → List ℕ → ℕ → Type 0
AreFound customer last k s m =
    (ns : List ℕ) × each_number.spells ns s × Behind last ns × IsNoneOf customer ns × (length ns + k ≡ m)

none-behind : (last : Option ℕ) → Behind last []
none-behind None = tt
none-behind (Some last) = tt

list-found : (customer fuel : ℕ) (last : Option ℕ) (k : ℕ) (s : List ℕ) (z : Option ℕ) (m : ℕ) → IsBytes s
    → fold_n (provider_at customer) fuel last k s ≡ Ok (z, m) → AreFound customer last k s m
list-found customer fuel last k [] z m b e =
    let p = pair-ok e in ([], refl, none-behind last, tt, omega (arith, p.1))
list-found customer zero last k (x ∷ xs) z m b e = absurd cc
list-found customer (suc fuel) last k (x ∷ xs) z m b e =
    let p = bind-ok (provider_at customer last (x ∷ xs)) (λ next.
    if nat_lt (length next.1) (suc (length xs))
    then fold_n (provider_at customer) fuel next.0 (k + 1) next.1
    else Err 6)
    (z, m) e in
    let h = next-is customer last p.0.0 (x ∷ xs) p.0.1 p.1 in
    let sp = number-found (x ∷ xs) h.number p.0.1 b h.read in
    let rest = (if-ok (nat_lt (length p.0.1) (suc (length xs))) _ 6 (z, m) p.2).1 in
    let g = list-found customer fuel (Some h.number) (k + 1) p.0.1 z m (following b sp) (rw h.is at rest) in
    (h.number ∷ g.0, (p.0.1, sp, g.1), behind last h.number g.0 h.above g.2, (h.others, g.3), omega (arith, g.4))

to-providers : (customer : ℕ) (ns : List ℕ) → ns ≢ [] → Behind None ns → IsNoneOf customer ns → AreProviders customer ns
to-providers customer ns some a o = record { some = some; ascend = a; others = o }

providers-found : (customer : ℕ) (s : List ℕ) (m : ℕ) → IsBytes s → providers_at customer s ≡ Ok m
    → (ns : List ℕ) × each_number.spells ns s × AreProviders customer ns × (length ns ≡ m)
unfolding providers_at fold_at
providers-found customer [] m b e = absurd cc
providers-found customer (x ∷ xs) m b e =
    let y = bind-ok (fold_n (provider_at customer) (suc (length xs)) None 0 (x ∷ xs)) some_provider m e in
    counted y.0.0 y.0.1 y.1 y.2 where
      counted : (z : Option ℕ) (n : ℕ) → fold_n (provider_at customer) (suc (length xs)) None 0 (x ∷ xs) ≡ Ok (z, n)
          → some_provider (z, n) ≡ Ok m
          → (ns : List ℕ) × each_number.spells ns (x ∷ xs) × AreProviders customer ns × (length ns ≡ m)
      counted None n f g = absurd cc
      counted (Some last) n f g =
          let h = list-found customer (suc (length xs)) None 0 (x ∷ xs) (Some last) n b f in
          let same : n ≡ m = cc in
          let some : h.0 ≢ [] = λ z. absurd (none (subst (λ (ns : List ℕ). each_number.spells ns (x ∷ xs)) z h.1)) in
          (h.0, h.1, to-providers customer h.0 some h.2 h.3, omega (arith, h.4, same)) where
            none : (x ∷ xs) ≡ [] → ⊥
            none z = absurd cc

-- ---- the parts, and all

version-found : (s : List ℕ) (u : Unit {0}) (r : List ℕ) → IsBytes s → version_at s ≡ Ok (u, r)
    → Spells version.spells s tt r
version-found s u r b e =
    let c = bind-ok (value_at version_tag true s) _ (u, r) e in
    let v = bind-ok (leaf_at integer (number_in 1) c.0.0) _ (u, r) c.2 in
    let n = bind-ok (ended v.0.1) _ (u, r) v.2 in
    let same = pair-ok n.2 in
    let sp = value-found version_tag true s c.0.0 c.0.1 b c.1 in
    let inner = leaf-found integer (IsNumber 1) (number_in 1) (number_decides 1) c.0.0 v.0.0 v.0.1
    (contents-bytes version_tag true s c.0.0 c.0.1 b sp) v.1 in
    record {
      front = sp.front;
      parts = subst (λ (q : List ℕ). s ≡ sp.front ++ q) same.1 sp.parts;
      spelled = record { contents = c.0.0; value = sp.spelled; spelled = whole (ended-ok v.0.1 n.0 n.1) inner };
    }

record AreParts (c : List ℕ) (x : FoundAspa) : Type 0 where
  providers : List ℕ
  spelled : fields.spells (fields_of (aspa_parts x.customer providers)) c
  stands : AreProviders x.customer providers
  octets : each_number.spells providers x.providers
  count : length providers ≡ x.count

members-found : (c : List ℕ) (x : FoundAspa) → IsBytes c → members c ≡ Ok x → AreParts c x
members-found c x b e =
    let v = part-ok P.Version (version_at c) _ x e in
    let n = part-ok P.Customer (number_at v.0.1) _ x v.2 in
    let p = part-ok P.Providers (value_at sequence true n.0.1) _ x n.2 in
    let k = part-ok P.Providers (providers_at n.0.0 p.0.0) _ x p.2 in
    let z = part-ok P.Providers (ended p.0.1) _ x k.2 in
    let one = version-found c v.0.0 v.0.1 b v.1 in
    let bytes = following b one in
    let two = number-found v.0.1 n.0.0 n.0.1 bytes n.1 in
    let list = whole-found n.0.1 p.0.0 p.0.1 z.0 (following bytes two) p.1 z.1 in
    let g = providers-found n.0.0 p.0.0 k.0 list.1 k.1 in
    subst (AreParts c) (ok-is _ _ z.2) (record {
      providers = g.0;
      spelled = record {
        first = one.front;
        second = v.0.1;
        parts = one.parts;
        one = one.spelled;
        two = record {
          first = two.front;
          second = n.0.1;
          parts = two.parts;
          one = two.spelled;
          two = record { contents = p.0.0; value = list.0; spelled = g.1 };
        };
      };
      stands = g.2;
      octets = g.1;
      count = g.3;
    })

pub attestation_found : (s : List ℕ) → IsBytes s → (x : FoundAspa) → attestation s ≡ Ok x → IsAspaOf s x
attestation_found s b x e =
    let c = part-ok P.Attestation (value_at sequence true s) _ x e in
    let z = part-ok P.Attestation (ended c.0.1) _ x c.2 in
    let outer = whole-found s c.0.0 c.0.1 z.0 b c.1 z.1 in
    let h = members-found c.0.0 x outer.1 z.2 in
    record {
      providers = h.providers;
      spelled = record {
        value = fields_of (aspa_parts x.customer h.providers);
        spelled = record { contents = c.0.0; value = outer.0; spelled = h.spelled };
        stands = record { same = refl; providers = h.stands };
      };
      octets = h.octets;
      count = h.count;
    }

-- That payloads which compare as equal are one; and which are among converted ones.
use Rattle.std.proofs.Common.{◌≡◌, ◌↔◌, ◌∙◌, ℕ, zero, suc, List, [], ◌∷◌, ap, refl, sym, subst, map, arith}
use Rattle.std.specs.Ordering.{nat_cmp, ordering_then}
use Rattle.std.specs.Cmp.Lexicographic.{slice_cmp}
use Rattle.std.specs.List.{Contains}
use Rattle.std.specs.List.Sorted.{IsStrictlySortedBy}
use Rattle.std.specs.declared.cmp.Ordering.{Ordering}
use Rattle.std.specs.declared.cmp.Ordering.TheVariants.{Less, Equal, Greater}
use Rattle.std.specs.declared.net.ip_addr.IpAddr.{IpAddr}
use Rattle.std.specs.declared.net.ip_addr.IpAddr.TheVariants.{V4, V6}
use Rattle.std.proofs.lemmas.Cmp.{nat_cmp_total, nat_list_cmp_total, on_total, then_total}
use Rattle.std.specs.Cmp.{IsTotalOrder}
use Rattle.std.proofs.lemmas.Map.Lookups.{exact_unsigned, exact_bytes, exact_pairs}
use Rattle.rpki_contents.specs.declared.route_origin.RouteOrigin.{RouteOrigin}
use Rattle.rpki_payloads.specs.contracts.router_key.RouterKeyOrd.TheImpl as key-order
use Rattle.rpki_payloads.specs.contracts.timed.TimedVrpOrd.TheImpl as timed-order
use Rattle.rpki_payloads.specs.contracts.vap.CustomerProviderOrd.TheImpl as pair-order
use Rattle.rpki_payloads.specs.contracts.vrp.VrpOrd.TheImpl.{ghosts}
use Rattle.rpki_payloads.specs.declared.router_key.RouterKey.{RouterKey}
use Rattle.rpki_payloads.specs.declared.timed.TimedVrp.{TimedVrp}
use Rattle.rpki_payloads.specs.declared.vap.CustomerProvider.{CustomerProvider}
use Rattle.rpki_payloads.specs.declared.vrp.Vrp.{Vrp}
use Rattle.rpki_payloads.specs.RouterKey.{key_cmp}
use Rattle.rpki_payloads.specs.Sets.{IsSetOf}
use Rattle.rpki_payloads.specs.Timed.{timed_cmp}
use Rattle.rpki_payloads.specs.Vap.{pair_cmp}
use Rattle.rpki_payloads.specs.Vrp.{IsExact, ip_cmp, vrp_cmp, vrp_of, origin_of}

pub exact-ip : IsExact ip_cmp
exact-ip (V4 a) (V4 b) h = ap (λ (o : List ℕ). V4 (record { octets = o })) (exact_bytes a.octets b.octets h)
exact-ip (V6 a) (V6 b) h = ap (λ (o : List ℕ). V6 (record { segments = o })) (exact_bytes a.segments b.segments h)
exact-ip (V4 a) (V6 b) h = absurd (let k : Less ≡ Equal = h in cc)
exact-ip (V6 a) (V4 b) h = absurd (let k : Greater ≡ Equal = h in cc)

pub exact-vrp : IsExact vrp_cmp
exact-vrp v w h =
    ap (λ (p : IpAddr × (ℕ × (ℕ × ℕ))). record { addr = p.0; len = p.1.0; max_length = p.1.1.0; as_id = p.1.1.1 })
    (exact_pairs ip_cmp _ exact-ip (exact_pairs nat_cmp _ exact_unsigned
    (exact_pairs nat_cmp nat_cmp exact_unsigned exact_unsigned))
    (v.addr, (v.len, (v.max_length, v.as_id))) (w.addr, (w.len, (w.max_length, w.as_id))) h)

-- the order that is derived is the one that is defined
pub same-cmp : (v w : Vrp) → ghosts.cmp v w ≡ vrp_cmp v w
same-cmp v w = by v.addr w.addr refl refl where
  by : (a b : IpAddr) → v.addr ≡ a → w.addr ≡ b → ghosts.cmp v w ≡ vrp_cmp v w
  by (V4 a) (V4 b) e f = rw (e, f) refl
  by (V4 a) (V6 b) e f = rw (e, f) refl
  by (V6 a) (V4 b) e f = rw (e, f) refl
  by (V6 a) (V6 b) e f = rw (e, f) refl

pub exact-pair : IsExact pair_cmp
exact-pair v w h =
    ap (λ (p : ℕ × ℕ). record { customer = p.0; provider = p.1 })
    (exact_pairs nat_cmp nat_cmp exact_unsigned exact_unsigned (v.customer, v.provider) (w.customer, w.provider) h)

pub same-pairs : (v w : CustomerProvider) → pair-order.ghosts.cmp v w ≡ pair_cmp v w
same-pairs v w = refl

pub exact-key : IsExact key_cmp
exact-key v w h =
    ap (λ (p : ℕ × (ℕ × (List ℕ × List ℕ))).
    record { first = p.0; last = p.1.0; identifier = p.1.1.0; info = p.1.1.1 })
    (exact_pairs nat_cmp _ exact_unsigned (exact_pairs nat_cmp _ exact_unsigned
    (exact_pairs (slice_cmp nat_cmp) (slice_cmp nat_cmp) exact_bytes exact_bytes))
    (v.first, (v.last, (v.identifier, v.info))) (w.first, (w.last, (w.identifier, w.info))) h)

pub same-keys : (v w : RouterKey) → key-order.ghosts.cmp v w ≡ key_cmp v w
same-keys v w = refl

-- what is put in order, each once, is a set
pub the-set : {A : Type 0} (G R : A → A → Ordering) (old new : List A) → ((v w : A) → G v w ≡ R v w) → IsExact R
    → IsStrictlySortedBy G new → ((v : A) → Contains new v → Contains old v)
    → (IsExact G → (v : A) → Contains old v → Contains new v) → IsSetOf R (Contains old) new
the-set {A} G R old new same exact sorted none all = record {
  order = subst (λ (S : A → A → Ordering). IsStrictlySortedBy S new) (λ i v w. same v w i) sorted;
  each = λ v. (none v, all (λ x y e. exact x y (sym (same x y) ∙ e)) v);
}

-- a set, by another word for what is in it
pub set-as : {A : Type 0} (R : A → A → Ordering) (P Q : A → Type 0) (all : List A) → ((v : A) → P v ↔ Q v)
    → IsSetOf R P all → IsSetOf R Q all
set-as R P Q all same set = record {
  order = set.order;
  each = λ v. (λ h. (same v).0 ((set.each v).0 h), λ q. (set.each v).1 ((same v).1 q));
}

-- what is among the payloads of route origins
pub among-map : {A B : Type 0} (f : A → B) (g : B → A) → ((y : B) → f (g y) ≡ y) → ((x : A) → g (f x) ≡ x)
    → (xs : List A) (y : B) → Contains (map f xs) y → Contains xs (g y)
among-map f g there back [] y (k, below, is) = absurd (omega (arith, below))
among-map f g there back (x ∷ xs) y (zero, below, is) = (0, omega arith, sym (back x) ∙ ap g is)
among-map f g there back (x ∷ xs) y (suc k, below, is) =
    let h = among-map f g there back xs y (k, omega (arith, below), is) in
    (suc h.0, omega (arith, h.1), h.2)

pub map-among : {A B : Type 0} (f : A → B) (g : B → A) → ((y : B) → f (g y) ≡ y)
    → (xs : List A) (y : B) → Contains xs (g y) → Contains (map f xs) y
map-among f g there [] y (k, below, is) = absurd (omega (arith, below))
map-among f g there (x ∷ xs) y (zero, below, is) = (0, omega arith, ap f is ∙ there y)
map-among f g there (x ∷ xs) y (suc k, below, is) =
    let h = map-among f g there xs y (k, omega (arith, below), is) in
    (suc h.0, omega (arith, h.1), h.2)

pub origins-from : (os : List RouteOrigin) (v : Vrp) → Contains (map vrp_of os) v → Contains os (origin_of v)
origins-from os v h = among-map vrp_of origin_of (λ y. refl) (λ x. refl) os v h

pub origins-to : (os : List RouteOrigin) (v : Vrp) → Contains os (origin_of v) → Contains (map vrp_of os) v
origins-to os v h = map-among vrp_of origin_of (λ y. refl) os v h

pub exact-timed : IsExact timed_cmp
exact-timed s t h =
    ap (λ (p : Vrp × ℕ). record { vrp = p.0; expires = p.1 })
    (exact_pairs vrp_cmp nat_cmp exact-vrp exact_unsigned (s.vrp, s.expires) (t.vrp, t.expires) h)

pub same-timed : (s t : TimedVrp) → timed-order.ghosts.cmp s t ≡ timed_cmp s t
same-timed s t = ap (λ (o : Ordering). ordering_then o (nat_cmp s.expires t.expires)) (same-cmp s.vrp t.vrp)

-- ---- the order is total

kind : IpAddr → ℕ
kind (V4 a) = 0
kind (V6 a) = 1

parts : IpAddr → List ℕ
parts (V4 a) = a.octets
parts (V6 a) = a.segments

same-ip : (a b : IpAddr)
    → ordering_then (nat_cmp (kind a) (kind b)) (slice_cmp nat_cmp (parts a) (parts b)) ≡ ip_cmp a b
unfolding kind parts
same-ip (V4 a) (V4 b) = refl
same-ip (V4 a) (V6 b) = refl
same-ip (V6 a) (V4 b) = refl
same-ip (V6 a) (V6 b) = refl

ip-total : IsTotalOrder ip_cmp
ip-total =
    subst (λ (R : IpAddr → IpAddr → Ordering). IsTotalOrder R) (λ i a b. same-ip a b i)
    (then_total (on_total kind nat_cmp_total) (on_total parts nat_list_cmp_total))

pub vrp-total : IsTotalOrder vrp_cmp
vrp-total =
    then_total (on_total (λ v. v.addr) ip-total) (then_total (on_total (λ v. v.len) nat_cmp_total)
    (then_total (on_total (λ v. v.max_length) nat_cmp_total) (on_total (λ v. v.as_id) nat_cmp_total)))

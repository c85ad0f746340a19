-- Payloads with local exceptions, under one locator after another.
use Rattle.std.proofs.Common.{◌≡◌, ◌↔◌, ℕ, ◌+◌, ◌<◌, List, [], ◌∷◌, ◌++◌, length, get_or, take, sym, subst}
use Rattle.std.proofs.Common.{◌∙◌, ap, append-nil, append_assoc}
use Rattle.std.proofs.lemmas.List.{take_more}
use Rattle.std.specs.Prelude.{Option}
use Rattle.std.specs.List.{Contains}
use Rattle.rpki_payloads.specs.declared.exceptions.NamedExceptions.{NamedExceptions}
use Rattle.rpki_payloads.specs.declared.filters.PrefixFilter.{PrefixFilter}
use Rattle.rpki_payloads.specs.declared.key_filters.KeyFilter.{KeyFilter}
use Rattle.rpki_payloads.specs.declared.router_key.RouterKey.{RouterKey}
use Rattle.rpki_payloads.specs.declared.tally.Tally.{Tally}
use Rattle.rpki_payloads.specs.declared.timed.TimedVrp.{TimedVrp}
use Rattle.rpki_payloads.specs.declared.vap.CustomerProvider.{CustomerProvider}
use Rattle.rpki_payloads.specs.declared.vrp.Vrp.{Vrp}
use Rattle.rpki_payloads.specs.Exceptions.{AreAdded, AreEach, IsAsserted, IsWithout}
use Rattle.rpki_payloads.specs.Filtered.{IsKept, IsKeptTimed, left_by_all}
use Rattle.rpki_payloads.specs.Payloads.{PayloadParts, payload_parts}
use Rattle.rpki_payloads.specs.RouterKey.{key_cmp}
use Rattle.rpki_payloads.specs.Sets.{IsSetOf}
use Rattle.rpki_payloads.specs.Timed.{timed_cmp}
use Rattle.rpki_payloads.specs.Vrp.{vrp_cmp}
use Rattle.rpki_payloads.proofs.OrderLaws.{set-as}

-- those that are kept, in order
pub kept-set : (filters filters2 : List PrefixFilter) (vrps vrps2 left new : List Vrp) → filters ≡ filters2
    → vrps ≡ vrps2 → ((v : Vrp) → Contains left v ↔ IsKept filters vrps v) → IsSetOf vrp_cmp (Contains left) new
    → IsSetOf vrp_cmp (IsKept filters2 vrps2) new
kept-set filters filters2 vrps vrps2 left new e f same set =
    subst (λ (fs : List PrefixFilter). IsSetOf vrp_cmp (IsKept fs vrps2) new) e
    (subst (λ (vs : List Vrp). IsSetOf vrp_cmp (IsKept filters vs) new) f
    (set-as vrp_cmp (Contains left) (IsKept filters vrps) new same set))

-- the same, with their ends
pub kept-timed : (filters filters2 : List PrefixFilter) (all all2 left new : List TimedVrp) → filters ≡ filters2
    → all ≡ all2 → ((t : TimedVrp) → Contains left t ↔ IsKeptTimed filters all t)
    → IsSetOf timed_cmp (Contains left) new → IsSetOf timed_cmp (IsKeptTimed filters2 all2) new
kept-timed filters filters2 all all2 left new e f same set =
    subst (λ (fs : List PrefixFilter). IsSetOf timed_cmp (IsKeptTimed fs all2) new) e
    (subst (λ (ts : List TimedVrp). IsSetOf timed_cmp (IsKeptTimed filters ts) new) f
    (set-as timed_cmp (Contains left) (IsKeptTimed filters all) new same set))

-- what filters leave of keys, in order
pub left-set : (filters filters2 : List KeyFilter) (keys keys2 left new : List RouterKey) → filters ≡ filters2
    → keys ≡ keys2 → ((k : RouterKey) → Contains left k ↔ Contains (left_by_all filters keys) k)
    → IsSetOf key_cmp (Contains left) new → IsSetOf key_cmp (Contains (left_by_all filters2 keys2)) new
left-set filters filters2 keys keys2 left new e f same set =
    subst (λ (fs : List KeyFilter). IsSetOf key_cmp (Contains (left_by_all fs keys2)) new) e
    (subst (λ (ks : List RouterKey). IsSetOf key_cmp (Contains (left_by_all filters ks)) new) f
    (set-as key_cmp (Contains left) (Contains (left_by_all filters keys)) new same set))

pub is-without : (filters : List PrefixFilter) (identifiers : List KeyFilter) (old new : PayloadParts)
    (name : List ℕ) (vrps : List Vrp) (timed : List TimedVrp)
    (pairs : List CustomerProvider) (keys : List RouterKey) (tally : Option Tally)
    → new ≡ payload_parts name vrps timed pairs keys tally
    → name ≡ old.name → IsSetOf vrp_cmp (IsKept filters old.vrps) vrps
    → IsSetOf timed_cmp (IsKeptTimed filters old.timed) timed → pairs ≡ old.pairs
    → IsSetOf key_cmp (Contains (left_by_all identifiers old.keys)) keys → tally ≡ old.tally
    → IsWithout filters identifiers old new
is-without filters identifiers old new name vrps timed pairs keys tally is named kept ends same left counted =
    subst (λ (p : PayloadParts). IsWithout filters identifiers old p) (sym is)
    (record { name = named; vrps = kept; timed = ends; pairs = same; keys = left; tally = counted })

-- one more
pub each-more : {A B : Type 0} (R : A → B → Type 0) (xs : List A) (ys : List B) (x : A) (y : B) → AreEach R xs ys
    → R x y → AreEach R (xs ++ x ∷ []) (ys ++ y ∷ [])
each-more R [] [] x y h r = (r, tt)
each-more R [] (z ∷ zs) x y h r = absurd h
each-more R (w ∷ ws) [] x y h r = absurd h
each-more R (w ∷ ws) (z ∷ zs) x y h r = (h.0, each-more R ws zs x y h.1 r)

pub each-next : {A B : Type 0} (R : A → B → Type 0) (all : List A) (ys : List B) (i : ℕ) (x : A) (y : B)
    → i < length all → x ≡ get_or all i x → AreEach R (take i all) ys → R x y
    → AreEach R (take (i + 1) all) (ys ++ y ∷ [])
each-next {A} {B} R all ys i x y lt is before one =
    subst (λ (w : List A). AreEach R w (ys ++ y ∷ [])) (sym (take_more all i x lt))
    (each-more R (take i all) ys (get_or all i x) y before (subst (λ (z : A). R z y) is one))

-- what files add, in sequence
pub added-none : (old : List PayloadParts) → AreAdded [] old old
added-none old = ([], tt, sym (append-nil old))

pub added-next : (files : List NamedExceptions) (i : ℕ) (x : NamedExceptions) (old new : List PayloadParts)
    (one : PayloadParts) → i < length files → x ≡ get_or files i x → AreAdded (take i files) old new → IsAsserted x one
    → AreAdded (take (i + 1) files) old (new ++ one ∷ [])
added-next files i x old new one lt is h asserts = (
  h.0 ++ one ∷ [],
  each-next IsAsserted files h.0 i x one lt is h.1 asserts,
  ap (λ (ps : List PayloadParts). ps ++ one ∷ []) h.2 ∙ append_assoc old h.0 (one ∷ []),
)

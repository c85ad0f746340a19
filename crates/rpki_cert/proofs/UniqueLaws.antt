-- Extensions, each identifier once, looked at from the first: a set has the identifiers of those that were seen.
use Rattle.std.proofs.Common.{◌≡◌, ◌≢◌, ◌∙◌, ℕ, Bool, true, false, List, [], ◌∷◌, Option, Some, refl, sym, ap}
use Rattle.std.specs.Prelude.{◌&&◌, not, cond, if◌then◌else◌, bytes_eq}
use Rattle.std.specs.Ordering.{nat_cmp, is_eq}
use Rattle.std.specs.Cmp.Lexicographic.{slice_cmp}
use Rattle.std.proofs.lemmas.Map.Text.{is_eq-slice_cmp}
use Rattle.std.proofs.lemmas.Slice.Eq.{bytes_eq-Decides}
use Rattle.rpki_der.specs.Reading.{Accepts, Refuses}
use Rattle.rpki.specs.ExtensionValue.{ExtensionParts, SpellsExtension}
use Rattle.rpki_cert.specs.Cert.{find, is_there, are_unique}
use Rattle.rpki_cert.specs.ExtensionTable.{OfListed}
use Rattle.rpki_cert.proofs.ListedLaws.{Each, each-rest, each-none, each-end}

-- ---- tests

eq-turned : (a b : List ℕ) (e f : Bool) → bytes_eq a b ≡ e → bytes_eq b a ≡ f → e ≡ f
eq-turned a b true true h k = refl
eq-turned a b false false h k = refl
eq-turned a b true false h k = sym ((bytes_eq-Decides b a).1 (sym ((bytes_eq-Decides a b).0 h))) ∙ k
eq-turned a b false true h k = sym h ∙ (bytes_eq-Decides a b).1 (sym ((bytes_eq-Decides b a).0 k))

there-if : (b : Bool) (x : ExtensionParts) (o : Option ExtensionParts)
    → cond b true (is_there o) ≡ is_there (if b then Some x else o)
there-if true x o = refl
there-if false x o = refl

-- the set has one identifier more
pub seen-more : (x : ExtensionParts) (xs : List ExtensionParts) (q : List ℕ) (old new : Bool)
    → old ≡ is_there (find q xs) → new ≡ cond (is_eq (slice_cmp nat_cmp x.identifier q)) true old
    → new ≡ is_there (find q (x ∷ xs))
seen-more x xs q old new before step =
    step ∙ ap (λ (b : Bool). cond b true old) (is_eq-slice_cmp x.identifier q)
    ∙ ap (λ (o : Bool). cond (bytes_eq x.identifier q) true o) before
    ∙ there-if (bytes_eq x.identifier q) x (find q xs)

-- ---- extensions that are apart from those that were seen

abbrev pub apart : List ExtensionParts → List ExtensionParts → Bool
apart seen [] = true
apart seen (y ∷ ys) = not (is_there (find y.identifier seen)) && apart seen ys

regroup : (e f t a u : Bool) → e ≡ f → not (cond e true t) && (a && not u) ≡ (not t && a) && not (cond f true u)
regroup true true t a u same = sym (nothing (not t && a)) where
  nothing : (b : Bool) → b && false ≡ false
  nothing true = refl
  nothing false = refl
regroup false false true a u same = refl
regroup false false false a u same = refl
regroup true false t a u same = cc
regroup false true t a u same = cc

apart-more : (y : ExtensionParts) (seen zs : List ExtensionParts)
    → apart (y ∷ seen) zs ≡ (apart seen zs && not (is_there (find y.identifier zs)))
apart-more y seen [] = refl
apart-more y seen (z ∷ zs) =
    let e = bytes_eq y.identifier z.identifier in
    let f = bytes_eq z.identifier y.identifier in
    let t = is_there (find z.identifier seen) in
    let u = is_there (find y.identifier zs) in
    let left : apart (y ∷ seen) (z ∷ zs) ≡ (not (cond e true t) && (apart seen zs && not u)) =
    ap (λ (b : Bool). not b && apart (y ∷ seen) zs) (sym (there-if e y (find z.identifier seen)))
    ∙ ap (λ (b : Bool). not (cond e true t) && b) (apart-more y seen zs) in
    left ∙ regroup e f t (apart seen zs) u (eq-turned y.identifier z.identifier e f refl refl)
    ∙ ap (λ (b : Bool). (not t && apart seen zs) && not b) (there-if f z (find y.identifier zs))

-- ---- one step

-- what is unique in s is unique in r, and apart from those that were seen
pub record KeepsApart (seen : List ExtensionParts) (s r : List ℕ) : Type 0 where
  pub same : (xs : List ExtensionParts) → Each xs s
      → (ys : List ExtensionParts) × Each ys r × (are_unique xs ≡ (apart seen ys && are_unique ys))

nothing-seen : (ys : List ExtensionParts) → apart [] ys ≡ true
nothing-seen [] = refl
nothing-seen (y ∷ ys) = nothing-seen ys

pub apart-first : (s : List ℕ) → KeepsApart [] s s
apart-first s = record {
  same = λ xs h. (xs, h, sym (ap (λ (b : Bool). b && are_unique xs) (nothing-seen xs)));
}

new-one : (seen a u w : Bool) → seen ≡ false → ((not seen && a) && (not u && w)) ≡ ((a && not u) && w)
new-one false true u w h = refl
new-one false false u w h = refl
new-one true a u w h = cc

pub apart-on : (seen : List ExtensionParts) (s r q : List ℕ) (y : ExtensionParts) → r ≢ [] → KeepsApart seen s r
    → Accepts SpellsExtension r y q → is_there (find y.identifier seen) ≡ false → KeepsApart (y ∷ seen) s q
apart-on seen s r q y some h a new = record {
  same = λ xs k.
      let (ys, each, e) = h.same xs k in
      let (zs, is, rest) = each-rest r q y ys some a each in
      let u = is_there (find y.identifier zs) in (
        zs,
        rest,
        e ∙ ap (λ (ws : List ExtensionParts). apart seen ws && are_unique ws) is
            ∙ new-one (is_there (find y.identifier seen)) (apart seen zs) u (are_unique zs) new
            ∙ ap (λ (b : Bool). b && are_unique zs) (sym (apart-more y seen zs)),
      );
}

pub apart-twice : (seen : List ExtensionParts) (s r q : List ℕ) (y : ExtensionParts) → r ≢ [] → KeepsApart seen s r
    → Accepts SpellsExtension r y q → is_there (find y.identifier seen) ≡ true
    → OfListed s (λ xs. false ≡ are_unique xs)
apart-twice seen s r q y some h a old xs k =
    let (ys, each, e) = h.same xs k in
    let (zs, is, rest) = each-rest r q y ys some a each in
    sym (e ∙ ap (λ (ws : List ExtensionParts). apart seen ws && are_unique ws) is
    ∙ ap (λ (b : Bool). (not b && apart seen zs) && are_unique (y ∷ zs)) old)

pub apart-none : (seen : List ExtensionParts) (s r : List ℕ) → r ≢ [] → KeepsApart seen s r → Refuses SpellsExtension r
    → OfListed s (λ xs. false ≡ are_unique xs)
apart-none seen s r some h none xs k = let (ys, each, e) = h.same xs k in absurd (each-none r ys some none each)

pub apart-end : (seen : List ExtensionParts) (s r : List ℕ) → r ≡ [] → KeepsApart seen s r
    → OfListed s (λ xs. true ≡ are_unique xs)
apart-end seen s r end h xs k =
    let (ys, each, e) = h.same xs k in
    sym (e ∙ ap (λ (ws : List ExtensionParts). apart seen ws && are_unique ws) (each-end r ys end each))

-- ---- the set

not-false : (b : Bool) → not b ≡ false → b ≡ true
not-false true h = refl
not-false false h = sym h

not-true : (b : Bool) → not b ≡ true → b ≡ false
not-true true h = sym h
not-true false h = refl

-- the set has one identifier more
pub seen-on : (y : ExtensionParts) (seen : List ExtensionParts) (q id : List ℕ) → id ≡ y.identifier
    → (old new : Bool) → old ≡ is_there (find q seen) → new ≡ cond (is_eq (slice_cmp nat_cmp id q)) true old
    → new ≡ is_there (find q (y ∷ seen))
seen-on y seen q id same old new before step =
    seen-more y seen q old new before (step ∙ ap (λ (i : List ℕ). cond (is_eq (slice_cmp nat_cmp i q)) true old) same)

module _ (seen : List ExtensionParts) (s r q : List ℕ) (y : ExtensionParts) (some : r ≢ []) (h : KeepsApart seen s r)
    (a : Accepts SpellsExtension r y q) (id : List ℕ) (same : id ≡ y.identifier) (old : Bool)
    (is : old ≡ is_there (find id seen)) (new : Bool) (told : new ≡ not old) where
  there : old ≡ is_there (find y.identifier seen)
  there = is ∙ ap (λ (i : List ℕ). is_there (find i seen)) same

  -- the identifier is new, or isn't
  pub seen-apart : new ≡ true → KeepsApart (y ∷ seen) s q
  seen-apart first = apart-on seen s r q y some h a (sym there ∙ not-true old (sym told ∙ first))

  pub seen-twice : new ≡ false → OfListed s (λ xs. false ≡ are_unique xs)
  seen-twice again = apart-twice seen s r q y some h a (sym there ∙ not-false old (sym told ∙ again))

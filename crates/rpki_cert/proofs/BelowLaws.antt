-- A URI that goes on after another, which ends with a slash, lies below it.
use Rattle.std.proofs.Common.{◌≡◌, ◌≢◌, ◌∙◌, ◌≤◌, ◌<◌, ℕ, Bool, true, false, ◌&&◌, List, [], ◌∷◌, ◌++◌, length}
use Rattle.std.proofs.Common.{◌-◌, Option, None, Some, get_or, take, drop, refl, sym, ap, arith, append_assoc}
use Rattle.std.proofs.Common.{length-append, length-drop}
use Rattle.std.specs.Prelude.{if◌then◌else◌}
use Rattle.std.specs.List.{list_all}
use Rattle.std.specs.Option.{is_some}
use Rattle.std.proofs.lemmas.List.{drop-append-le, take-append-drop}
use Rattle.std.proofs.lemmas.List.Folds.{list_all-append}
use Rattle.rpki_text.specs.declared.uri.error.Error.{Error}
use Rattle.rpki_text.specs.UriText.{is_uri_byte}
use Rattle.rpki_text.specs.Segments.{segments, with_slash}
use Rattle.rpki_text.specs.RsyncText.{rsync_refusal, names_refusal, relative, uri_of, joined, path_of}
use Rattle.rpki_text.proofs.EqBytesLaws.{passes-cut}
use Rattle.rpki_text.proofs.JoinLaws.{head-of, is_dir-at-slash, joined-filled, names_refusal-back, relative-joined}
use Rattle.rpki_text.proofs.JoinLaws.{segments-joined, split-last, with_slash-dir}
use Rattle.rpki_text.proofs.SegmentLaws.{is_dir-empty}
use Rattle.rpki.specs.ExtensionValue.{ExtensionParts}
use Rattle.rpki_cert.specs.Access.{SaysUri, SpellsRsyncAccess, first_rsync, named}
use Rattle.rpki_cert.specs.RuleWords.{IsBelow}

and-second : (a b : Bool) → (a && b) ≡ true → b ≡ true
and-second true b e = e
and-second false b e = cc

-- ---- octets up to a slash, and what follows them

closed : (a : List ℕ) → with_slash (a ++ 47 ∷ []) ≡ a ++ 47 ∷ []
closed a = with_slash-dir (a ++ 47 ∷ []) (is_dir-at-slash a [] ∙ is_dir-empty)

behind : (a p : List ℕ) → with_slash (a ++ 47 ∷ []) ++ p ≡ a ++ 47 ∷ p
behind a p = ap (λ (x : List ℕ). x ++ p) (closed a) ∙ append_assoc a (47 ∷ []) p

names-behind : (a p : List ℕ) → names_refusal (segments (a ++ 47 ∷ p)) ≡ None → names_refusal (segments p) ≡ None
names-behind a p h =
    names_refusal-back (segments (a ++ 47 ∷ [])) (segments p)
    (ap names_refusal (sym (segments-joined (a ++ 47 ∷ []) p) ∙ ap segments (behind a p)) ∙ h)

pub filled : (p : List ℕ) → p ≢ [] → 0 < length p
filled [] some = absurd (some refl)
filled (b ∷ p) some = omega arith

-- what goes on after octets that end with a slash
pub goes-on : (base text : List ℕ) → 0 < length base → get_or base (length base - 1) 0 ≡ 47
    → length base < length text → take (length base) text ≡ base
    → (front path : List ℕ) × (base ≡ front ++ 47 ∷ []) × (text ≡ front ++ 47 ∷ path) × (path ≢ [])
goes-on base text some slash longer same =
    let front = take (length base - 1) base in
    let path = drop (length base) text in
    let is : base ≡ front ++ 47 ∷ [] = split-last base some ∙ ap (λ (x : ℕ). front ++ x ∷ []) slash in (
      front,
      path,
      is,
      sym (take-append-drop (length base) text) ∙ ap (λ (x : List ℕ). x ++ path) (same ∙ is)
          ∙ append_assoc front (47 ∷ []) path,
      λ (e : path ≡ []). omega (arith, ap length e, length-drop (length base) text, longer),
    )

pub below-behind : (f p : List ℕ) → rsync_refusal (f ++ 47 ∷ []) ≡ None → rsync_refusal (f ++ 47 ∷ p) ≡ None → p ≢ []
    → IsBelow (f ++ 47 ∷ []) (f ++ 47 ∷ p)
below-behind f p r s some =
    let base = f ++ 47 ∷ [] in
    let (m, n, c) = passes-cut base r in
    let form = (passes-cut (f ++ 47 ∷ p) s).2.form in
    let h = head-of base m n c in
    let long : 8 ≤ length f = omega (
      arith,
      h.long,
      c.path_starts,
      c.module_starts,
      ap length h.is,
      length-append f (47 ∷ []),
      length-append (h.head ++ 47 ∷ []) (path_of base),
      length-append h.head (47 ∷ []),
    ) in
    let characters : list_all is_uri_byte p ≡ true =
    and-second _ _ (and-second _ _ (sym (list_all-append is_uri_byte f (47 ∷ p)) ∙ form.characters)) in
    let names = names-behind (drop 8 f) p
    (ap (λ (x : List ℕ). names_refusal (segments x)) (sym (drop-append-le 8 f (47 ∷ p) long)) ∙ form.names) in
    let same : joined base p ≡ f ++ 47 ∷ p = joined-filled base p (filled p some) ∙ behind f p in
    record {
      base_uri = r;
      text_uri = s;
      path = p;
      leads =
          ap (λ (x : List ℕ). relative (uri_of x) (uri_of base)) (sym same)
          ∙ relative-joined base m n c p characters names;
      some = some;
    }

-- ---- the first URI of a list is one

one-passes : (text u : List ℕ) (rest : Option (List ℕ)) → (rest ≡ Some u → rsync_refusal u ≡ None)
    → (o : Option Error) → rsync_refusal text ≡ o → (if is_some o then rest else Some text) ≡ Some u
    → rsync_refusal u ≡ None
one-passes text u rest others None is e = let same : text ≡ u = cc in ap rsync_refusal (sym same) ∙ is
one-passes text u rest others (Some x) is e = others e

first-passes : (xs : List (Option (List ℕ))) (u : List ℕ) → first_rsync xs ≡ Some u → rsync_refusal u ≡ None
first-passes [] u e = cc
first-passes (None ∷ xs) u e = first-passes xs u e
first-passes (Some text ∷ xs) u e =
    one-passes text u (first_rsync xs) (λ k. first-passes xs u k) (rsync_refusal text) refl e

pub said-passes : (method : List ℕ) (found : Option ExtensionParts) (u : List ℕ)
    → SaysUri (SpellsRsyncAccess method) found (Some u) → rsync_refusal u ≡ None
said-passes method found u (None, h, e) = cc
said-passes method found u (Some v, h, e) =
    let leaf = h.0.3 in
    first-passes (named method leaf.spelled.0) u (sym leaf.spelled.2 ∙ sym e)

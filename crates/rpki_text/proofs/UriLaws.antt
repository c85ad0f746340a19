-- Where the parts of an rsync text are.
use Rattle.std.proofs.Common.{◌≡◌, ℕ, ◌+◌, ◌-◌, ◌<◌, ◌≤◌, Bool, true, false, cond, not, ◌&&◌, ◌||◌, nat_lt, nat_le}
use Rattle.std.proofs.Common.{List, [], ◌∷◌, length, take, drop, Some, None, sym, refl, ap, ◌∙◌, arith}
use Rattle.std.specs.List.{position_or_len, before_first, after_first, list_any, list_all}
use Rattle.std.proofs.lemmas.List.{drop-drop, length-drop}
use Rattle.std.proofs.lemmas.List.Folds.{length-prefix_len}
use Rattle.std.proofs.lemmas.Bool.Decides.{nat_tests}
use Rattle.rpki_text.specs.declared.uri.error.Error.{Error}
use Rattle.rpki_text.specs.declared.uri.error.Error.TheVariants.{InvalidCharacters, BadUri, LongUri, BadScheme}
use Rattle.rpki_text.specs.Segments.{is_slash, segments}
use Rattle.rpki_text.specs.UriText.{is_uri_byte}
use Rattle.rpki_text.proofs.SegmentLaws.{tail-slice}
use Rattle.rpki_text.specs.RsyncText.{has_module, authority_of, module_name_of, path_refusal, names_refusal}
use Rattle.rpki_text.specs.RsyncText.{rsync_refusal, has_scheme}

list-any-position : (xs : List ℕ) → list_any is_slash xs ≡ nat_lt (position_or_len is_slash xs) (length xs)
list-any-position [] = refl
list-any-position (x ∷ xs) =
    elim (is_slash x) as (λ v. (v || list_any is_slash xs) ≡ nat_lt (cond (not v) (1 + position_or_len is_slash xs) 0)
    (length (x ∷ xs))) [
      | true ↦ grind (arith, nat_tests)
      | false ↦ list-any-position xs ∙ grind (arith, nat_tests)
    ]

pub after-first-drop : (n : ℕ) (t : List ℕ)
    → after_first is_slash (drop n t) ≡ drop (n + (position_or_len is_slash (drop n t) + 1)) t
after-first-drop n t = drop-drop (position_or_len is_slash (drop n t) + 1) n t

-- the module is where two slashes with something before each do
pub has_module-places : (t : List ℕ) (a m : ℕ) → a ≡ position_or_len is_slash (drop 8 t)
    → m ≡ position_or_len is_slash (drop (9 + a) t)
    → has_module t ≡ (nat_lt 0 a && nat_lt 0 m && nat_lt m (length (drop (9 + a) t)))
unfolding has_module authority_of module_name_of
has_module-places t a m ea em =
    let after : after_first is_slash (drop 8 t) ≡ drop (9 + a) t = after-first-drop 8 t ∙ ap (λ n. drop n t)
    (omega arith) in
    let la : length (before_first is_slash (drop 8 t)) ≡ a = length-prefix_len (λ b. not (is_slash b)) (drop 8 t) ∙ sym
    ea in
    let lm : length (before_first is_slash (drop (9 + a) t)) ≡ m = length-prefix_len (λ b. not (is_slash b))
    (drop (9 + a) t) ∙ sym em in
    rw (la, after, lm) (ap (λ v. nat_lt 0 a && nat_lt 0 m && v)
    (list-any-position (drop (9 + a) t) ∙ ap (λ n. nat_lt n (length (drop (9 + a) t))) (sym em)))

pub module-stands : (t : List ℕ) (a m : ℕ) → a ≡ position_or_len is_slash (drop 8 t)
    → m ≡ position_or_len is_slash (drop (9 + a) t)
    → 0 < a → 0 < m → 9 + a + m < length t → has_module t ≡ true
module-stands t a m ea em pa pm h =
    has_module-places t a m ea em ∙ (let l : m < length (drop (9 + a) t) = rw (length-drop (9 + a) t) (omega arith) in
    grind (arith, nat_tests))

pub module-misses : (t : List ℕ) (a m : ℕ) → a ≡ position_or_len is_slash (drop 8 t)
    → m ≡ position_or_len is_slash (drop (9 + a) t)
    → length t ≤ 9 + a + m → has_module t ≡ false
module-misses t a m ea em h =
    has_module-places t a m ea em ∙ (let l : length (drop (9 + a) t) ≤ m = rw (length-drop (9 + a) t) (omega arith) in
    grind (arith, nat_tests))

pub module-empty : (t : List ℕ) (a m : ℕ) → a ≡ position_or_len is_slash (drop 8 t)
    → m ≡ position_or_len is_slash (drop (9 + a) t)
    → m ≡ 0 → has_module t ≡ false
module-empty t a m ea em h = has_module-places t a m ea em ∙ grind (arith, nat_tests)

pub authority-empty : (t : List ℕ) → position_or_len is_slash (drop 8 t) ≡ 0 → has_module t ≡ false
authority-empty t h = has_module-places t 0 _ (sym h) refl ∙ refl

-- what a text with a module says of the two places
pub record StandsAt (t : List ℕ) (a m : ℕ) : Type 0 where
  pub some_authority : 0 < a
  pub some_module : 0 < m
  pub fits : 9 + a + m < length t

pub module-places : (t : List ℕ) (a m : ℕ) → a ≡ position_or_len is_slash (drop 8 t)
    → m ≡ position_or_len is_slash (drop (9 + a) t)
    → has_module t ≡ true → StandsAt t a m
module-places t a m ea em h =
    let b : (nat_lt 0 a && nat_lt 0 m && nat_lt m (length (drop (9 + a) t))) ≡ true = sym
    (has_module-places t a m ea em) ∙ h in
    let l : length (drop (9 + a) t) ≡ length t - (9 + a) = length-drop (9 + a) t in
    record {
      some_authority = grind (arith, nat_tests);
      some_module = grind (arith, nat_tests);
      fits = grind
          (arith, nat_tests);
    }

-- the error, test by test
pub refuses-characters : (t : List ℕ) → list_all is_uri_byte t ≡ false → rsync_refusal t ≡ Some InvalidCharacters
unfolding rsync_refusal
refuses-characters t h = rw h refl

pub refuses-scheme : (t : List ℕ) → list_all is_uri_byte t ≡ true → has_scheme t ≡ false
    → rsync_refusal t ≡ Some BadScheme
unfolding rsync_refusal
refuses-scheme t h k = rw (h, k) refl

pub refuses-path : (t : List ℕ) (e : Error) → list_all is_uri_byte t ≡ true → has_scheme t ≡ true
    → path_refusal (drop 8 t) ≡ Some e → rsync_refusal t ≡ Some e
unfolding rsync_refusal
refuses-path t e h k p = rw (h, k, p) refl

pub refuses-module : (t : List ℕ) → list_all is_uri_byte t ≡ true → has_scheme t ≡ true → path_refusal (drop 8 t) ≡ None
    → has_module t ≡ false → rsync_refusal t ≡ Some BadUri
unfolding rsync_refusal
refuses-module t h k p m = rw (h, k, p, m) refl

pub refuses-nothing : (t : List ℕ) → list_all is_uri_byte t ≡ true → has_scheme t ≡ true
    → path_refusal (drop 8 t) ≡ None → has_module t ≡ true → rsync_refusal t ≡ None
unfolding rsync_refusal
refuses-nothing t h k p m = rw (h, k, p, m) refl

pub path-passes : (t : List ℕ) → path_refusal t ≡ None → names_refusal (segments t) ≡ None
unfolding path_refusal
path-passes t h = by_cases (nat_le 3072 (length t)) h where
  by_cases : (b : Bool) → (cond b (Some LongUri) (names_refusal (segments t))) ≡ None
      → names_refusal (segments t) ≡ None
  by_cases true h = cc
  by_cases false h = h

pub ruleset places = (module-stands, module-misses, module-empty, authority-empty)

-- the same, as `check_rsync` meets it
pub module-missing : (t : List ℕ) → list_all is_uri_byte t ≡ true → has_scheme t ≡ true
    → path_refusal (take (length t - 8) (drop 8 t)) ≡ None → has_module t ≡ false → rsync_refusal t ≡ Some BadUri
module-missing t h k p m = refuses-module t h k (ap path_refusal (sym (tail-slice 8 t)) ∙ p) m

pub ruleset refusals = (refuses-characters, refuses-scheme, module-missing)

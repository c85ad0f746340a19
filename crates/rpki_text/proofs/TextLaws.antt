-- Texts that are the same but for the case of letters in their front.
use Rattle.std.proofs.Common.{◌≡◌, ℕ, ◌+◌, true, false, List, length, take, drop, bytes_eq, sym, refl, ap, ◌∙◌}
use Rattle.std.proofs.Common.{arith}
use Rattle.std.proofs.lemmas.List.{take-append-drop, length-append, length-map}
use Rattle.std.proofs.lemmas.Bool.{false_from_ne_true}
use Rattle.std.proofs.lemmas.Slice.Eq.{bytes_eq-Decides}
use Rattle.std.specs.Cmp.{first_so, second_so}
use Rattle.std.specs.Char.{to_ascii_lowercase}
use Rattle.rpki_text.specs.UriText.{lowercase, same_text}

pub length-lowercase : (a : List ℕ) → length (lowercase a) ≡ length a
length-lowercase a = length-map a to_ascii_lowercase

-- what the two parts of the test say
pub record SameText (n : ℕ) (a b : List ℕ) : Type 0 where
  pub front : lowercase (take n a) ≡ lowercase (take n b)
  pub back : drop n a ≡ drop n b

pub same_text-parts : (n : ℕ) (a b : List ℕ) → same_text n a b ≡ true → SameText n a b
unfolding same_text
same_text-parts n a b h = record {
  front = (bytes_eq-Decides _ _).0 (first_so _ _ h);
  back = (bytes_eq-Decides _ _).0 (second_so (bytes_eq (lowercase (take n a)) (lowercase (take n b))) _ h);
}

cut-length : (n : ℕ) (a : List ℕ) → length a ≡ length (take n a) + length (drop n a)
cut-length n a = sym (ap length (take-append-drop n a)) ∙ length-append (take n a) (drop n a)

pub same_text-length : (n : ℕ) (a b : List ℕ) → same_text n a b ≡ true → length a ≡ length b
same_text-length n a b h =
    let p = same_text-parts n a b h in
    let front : length (take n a) ≡ length (take n b) = sym (length-lowercase (take n a)) ∙ ap length p.front ∙
    length-lowercase (take n b) in
    let back : length (drop n a) ≡ length (drop n b) = ap length p.back in
    omega (arith, cut-length n a, cut-length n b)

pub same_text-front : (n : ℕ) (a b : List ℕ) → lowercase (take n a) ≡ lowercase (take n b)
    → same_text n a b ≡ bytes_eq (drop n a) (drop n b)
unfolding same_text
same_text-front n a b h = rw ((bytes_eq-Decides (lowercase (take n a)) (lowercase (take n b))).1 h) refl

pub same_text-other : (n : ℕ) (a b : List ℕ) → (lowercase (take n a) ≡ lowercase (take n b) → ⊥)
    → same_text n a b ≡ false
same_text-other n a b h = false_from_ne_true _ (λ e. h (same_text-parts n a b e).front)

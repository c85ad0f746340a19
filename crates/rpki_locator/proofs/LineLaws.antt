-- The lines of a text.
use Rattle.std.proofs.Common.{◌≡◌, ◌+◌, ◌<◌, ◌≤◌, ℕ, zero, suc, Bool, true, false, List, [], ◌∷◌, ◌++◌, map, cond, refl}
use Rattle.std.proofs.Common.{ap, sym, ◌∙◌, length, take, drop, get_or, nat_lt, arith, ◌⊎◌, inl}
use Rattle.std.proofs.Common.{inr, Bor, leb, nat_eq, Some, Result, Ok, Err}
use Rattle.std.specs.Result.{result_ok}
use Rattle.std.proofs.lemmas.Bool.{lt-ltb, ltb-true}
use Rattle.std.proofs.lemmas.Bool.Decides.{leb_tells}
use Rattle.base64.specs.Engines.{standard}
use Rattle.base64.specs.GeneralPurpose.{decode_of}
use Rattle.rpki_locator.specs.declared.error.LocatorError.{LocatorError}
use Rattle.rpki_locator.specs.declared.error.LocatorError.TheVariants.{OtherUri, NoUri, NoKey, OtherText, OtherKey}
use Rattle.rpki_locator.specs.declared.error.LocatorError.TheVariants.{OutOfMemory}
use Rattle.rpki_locator.specs.declared.lines.Sections.{Sections}
use Rattle.rpki_locator.specs.Sections.{AreSections}
use Rattle.std.specs.List.{prefix_len}
use Rattle.std.proofs.Math.Seq.{take-suc}
use Rattle.std.proofs.lemmas.List.{take_all, take-map, drop-map, get_or_default, length-map}
use Rattle.rpki_locator.specs.Locator.{is_anchor_uri, key_digits, AreUrisOf, TextParts, text_parts, lines_part}
use Rattle.rpki_locator.specs.Locator.{locator_text, IsNoKey, IsLocatorError}

-- how many in front pass a test of what they are mapped to
pub prefix_len-map : {X Y : Type 0} (f : X → Y) (p : Y → Bool) (xs : List X)
    → prefix_len (λ x. p (f x)) xs ≡ prefix_len p (map f xs)
prefix_len-map f p [] = refl
prefix_len-map f p (x ∷ xs) = ap (λ (n : ℕ). cond (p (f x)) (1 + n) 0) (prefix_len-map f p xs)

-- all pass
pub all-pass : {X : Type 0} (p : X → Bool) (xs : List X)
    → ((k : ℕ) (d : X) → k < length xs → p (get_or xs k d) ≡ true) → prefix_len p xs ≡ length xs
all-pass p [] h = refl
all-pass p (x ∷ xs) h =
    let first : p x ≡ true = h 0 x (omega arith) in
    let more : prefix_len p xs ≡ length xs = all-pass p xs (λ k d below. h (suc k) d (omega (arith, below))) in
    rw (first, more) (omega arith)

-- those before this one pass, and it doesn't
pub one-fails : {X : Type 0} (p : X → Bool) (xs : List X) (i : ℕ) (d : X) → i < length xs
    → ((k : ℕ) → k < i → p (get_or xs k d) ≡ true) → p (get_or xs i d) ≡ false → prefix_len p xs ≡ i
one-fails p [] i d below h fails = absurd (omega (arith, below))
one-fails p (x ∷ xs) zero d below h fails = rw fails refl
one-fails p (x ∷ xs) (suc i) d below h fails =
    let first : p x ≡ true = h 0 (omega arith) in
    let more : prefix_len p xs ≡ i =
    one-fails p xs i d (omega (arith, below)) (λ k l. h (suc k) (omega (arith, l))) fails
    in
    rw (first, more) (omega arith)

-- of the lines those before a place are URIs, and these are their texts
pub record AreRead (lines : List (List ℕ)) (at : ℕ) (texts : List (List ℕ)) : Type 0 where
  pub texts_are : texts ≡ take at lines
  pub pass : (k : ℕ) (d : List ℕ) → k < at → k < length lines → is_anchor_uri (get_or lines k d) ≡ true

-- ---- the URIs

pub none-read : (lines : List (List ℕ)) (texts : List (List ℕ)) → texts ≡ [] → AreRead lines 0 texts
none-read lines texts e = record { texts_are = e; pass = λ k d l below. absurd (omega (arith, l)) }

pub one-more : (lines : List (List ℕ)) (at : ℕ) (texts more : List (List ℕ)) (text : List ℕ) → AreRead lines at texts
    → at < length lines → is_anchor_uri (get_or lines at []) ≡ true → text ≡ get_or lines at []
    → more ≡ texts ++ text ∷ [] → AreRead lines (at + 1) more
one-more lines at texts more text h below is same e = record {
  texts_are = e ∙ ap (λ (l : List (List ℕ)). l ++ text ∷ []) h.texts_are
      ∙ ap (λ (t : List ℕ). take at lines ++ t ∷ []) same ∙ sym (next (at + 1) (omega arith));
  pass = λ k d l inside. passes k d inside (or-last k l);
} where
  next : (n : ℕ) → n ≡ suc at → take n lines ≡ take at lines ++ get_or lines at [] ∷ []
  next n e = rw e (take-suc lines at [] below)

  or-last : (k : ℕ) → k < at + 1 → (k < at) ⊎ (k ≡ at)
  or-last k l = told (leb_tells (suc k) at)
    where
      told : ((leb (suc k) at ≡ true) × (suc k ≤ at)) ⊎ ((leb (suc k) at ≡ false) × (at < suc k)) → (k < at) ⊎ (k ≡ at)
      told (inl h) = let below = h.1 in inl (omega (arith, below))
      told (inr h) = let above = h.1 in inr (omega (arith, above, l))

  passes : (k : ℕ) (d : List ℕ) → k < length lines → (k < at) ⊎ (k ≡ at) → is_anchor_uri (get_or lines k d) ≡ true
  passes k d inside (inl l) = h.pass k d l inside
  passes k d inside (inr e) =
      rw (e, get_or_default lines at d [] below) is

pub all-read : (lines : List (List ℕ)) (at : ℕ) (texts : List (List ℕ)) → AreRead lines at texts
    → length lines ≤ at → AreUrisOf lines texts
all-read lines at texts h end = (
  h.texts_are ∙ take_all at lines end,
  all-pass is_anchor_uri lines (λ k d below. h.pass k d (omega (arith, below, end)) below),
)

pub other-uri : (lines : List (List ℕ)) (at before : ℕ) (texts : List (List ℕ)) → AreRead lines at texts
    → at < length lines → is_anchor_uri (get_or lines at []) ≡ false
    → (nat_lt (prefix_len is_anchor_uri lines) (length lines) ≡ true)
    × (before + (at + 1) ≡ before + (prefix_len is_anchor_uri lines + 1))
other-uri lines at before texts h below fails =
    let is : prefix_len is_anchor_uri lines ≡ at = one-fails is_anchor_uri lines at [] below
    (λ k l. h.pass k [] l (omega (arith, l, below))) fails in
    (rw is (lt-ltb at (length lines) below), rw is refl)

-- ---- the sections

module _ {X Y : Type 0} (f : X → Y) (p : Y → Bool) (xs named : List X) (n k : ℕ) (is : named ≡ drop n xs)
    (count : k ≡ prefix_len p (map f named)) where
  behind : drop n (map f xs) ≡ map f named
  behind = drop-map f n xs ∙ ap (map f) (sym is)

  pub front-part : (front : List X) → front ≡ take k named
      → map f front ≡ take (prefix_len p (drop n (map f xs))) (drop n (map f xs))
  front-part front e = rw (behind, e, ← count) (sym (take-map f k named))

  pub back-part : (back : List X) → back ≡ drop k named
      → map f back ≡ drop (prefix_len p (drop n (map f xs))) (drop n (map f xs))
  back-part back e = rw (behind, e, ← count) (sym (drop-map f k named))

-- ---- the text

was-ok : {E : Type 0} (r : Result (List ℕ) E) (octets : List ℕ) → Some octets ≡ result_ok r → r ≡ Ok octets
was-ok (Ok x) octets e = cc
was-ok (Err x) octets e = absurd (cc)

not-below : (a b : ℕ) → a ≡ b → nat_lt a b ≡ false
not-below a b e = of (nat_lt a b) refl
  where
    of : (x : Bool) → nat_lt a b ≡ x → nat_lt a b ≡ false
    of true h = let below = ltb-true a b h in absurd (omega (arith, below, e))
    of false h = h

-- its URIs and the octets of its key were read
pub text-read : (lines : List (List ℕ)) (x : Sections) (texts : List (List ℕ)) (line : Bor (List ℕ))
    (digits : List (Bor (List ℕ))) (octets : List ℕ) → AreSections lines x → nat_eq (length x.uris.now) 0 ≡ false
    → AreUrisOf (map (λ l. l.now) x.uris.now) texts → x.rest.now ≡ line ∷ digits
    → Some octets ≡ result_ok (decode_of standard (key_digits (map (λ l. l.now) digits)))
    → lines_part lines ≡ Ok (text_parts texts (x.comments + length x.uris.now + 1 + 1) octets)
text-read lines x texts line digits octets s some uris rest key =
    let U = map (λ l. l.now) x.uris.now in
    let whole = not-below (prefix_len is_anchor_uri U) (length U) uris.1 in
    let read = was-ok (decode_of standard (key_digits (map (λ l. l.now) digits))) octets key in
    rw (← s.comments, ← s.uris, ← s.rest, whole, length-map x.uris.now (λ l. l.now), some, rest, read, uris.0) refl

-- what is no key
pub no-key : (text : List ℕ) (parts : TextParts) → locator_text text ≡ Ok parts → (e : LocatorError)
    → IsNoKey parts.key parts.line e → IsLocatorError text e
no-key text parts is (OtherUri line) h = absurd h
no-key text parts is (NoUri line) h = absurd h
no-key text parts is (NoKey line) h = absurd h
no-key text parts is (OtherText line) h = absurd h
no-key text parts is (OtherKey line e) h = (parts, is, h.0, h.1)
no-key text parts is OutOfMemory h = tt

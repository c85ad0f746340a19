-- Locators that are written are read back.
use Rattle.std.proofs.Common.{◌≡◌, ◌≢◌, ◌≤◌, ◌<◌, ◌+◌, ◌*◌, ◌/◌, ◌%◌, ◌-◌, ℕ, zero, suc, Bool, true, false, not, ◌&&◌}
use Rattle.std.proofs.Common.{◌||◌, List, [], ◌∷◌, ◌++◌, length, take, drop, get_or, map, refl, sym, ap, subst, ◌∙◌}
use Rattle.std.proofs.Common.{arith, append_assoc, append-nil, length-append, min, ◌⊎◌, inl, inr, Option, Some, None}
use Rattle.std.proofs.Common.{nat_eq, nat_lt, bytes_eq, codes, nat_le, if◌then◌else◌, Result, Ok, Err, slice_index}
use Rattle.std.proofs.Common.{replicate}
use Rattle.std.specs.List.{All, list_all, prefix_len, ends_with, slice_split}
use Rattle.std.specs.Option.{is_none}
use Rattle.std.specs.Simd.{first_chunks}
use Rattle.std.proofs.lemmas.Bool.{ne_eqb, le-ltb, le-leb, cases_lt, and_parts}
use Rattle.std.proofs.lemmas.Slice.Eq.{bytes_eq-Decides}
use Rattle.std.proofs.lemmas.List.{take_at, drop_at, take_all, drop_all, take-append-drop, nil_from_length, drop_more}
use Rattle.std.proofs.lemmas.List.{length-drop, flat_map_more, get_or_default}
use Rattle.std.proofs.lemmas.Grind.{flat_map-append}
use Rattle.std.proofs.lemmas.List.Elements.{All-nil, All-cons, All-head, All-tail, All-append, All-take, All-drop}
use Rattle.std.proofs.lemmas.List.Elements.{All-replicate}
use Rattle.std.proofs.lemmas.List.Splits.{slice_split_at}
use Rattle.std.proofs.lemmas.List.Sums.{AllPass-from_list_all, prefix_len_passes}
use Rattle.std.proofs.Math.ListN.{get_or-eq_default}
use Rattle.std.proofs.Math.Seq.{take-suc}
use Rattle.base64.specs.Engines.{standard}
use Rattle.base64.specs.GeneralPurpose.{encode_of, decode_of}
use Rattle.base64.specs.Rfc4648.{encode_symbols, padding_len}
use Rattle.rpki_der.specs.declared.error.DecodeError.{DecodeError}
use Rattle.rpki_der.specs.declared.error.DecodeError.TheVariants as Fault
use Rattle.rpki_der.specs.Prelude.{bit_string, oid, sequence, SpellsLeaf, IsBits, IsOnly, UnlessMemory}
use Rattle.rpki_der.proofs.LeavesLaws.{bits-one}
use Rattle.rpki.specs.declared.crypto.keys.PublicKeyFormat.{PublicKeyFormat}
use Rattle.rpki.specs.declared.crypto.keys.PublicKeyFormat.TheVariants.{Rsa, EcdsaP256}
use Rattle.rpki.specs.KeyFormat.{IsFormatContents}
use Rattle.rpki.specs.Oids.{rsa_encryption, ec_public_key}
use Rattle.rpki.specs.PublicKey.{KeyParts, IsKeyContents, SpellsKey, key_octets}
use Rattle.rpki.proofs.PublicKeyLaws.{same-key}
use Rattle.rpki_cert.proofs.OneLaws.{contents-same, leaf-first}
use Rattle.rpki_text.specs.declared.uri.error.Error.{Error}
use Rattle.rpki_text.specs.declared.uri.error.Error.TheVariants.{InvalidCharacters, BadScheme}
use Rattle.rpki_text.specs.Segments.{is_dir}
use Rattle.rpki_text.specs.UriText.{is_uri_byte, lowercase}
use Rattle.rpki_text.specs.RsyncText.{IsRsync, rsync_refusal, path_refusal, path_of, has_scheme}
use Rattle.rpki_text.specs.HttpsText.{https_refusal}
use Rattle.rpki_locator.specs.Locator.{ends_line, without_return, lines_of, is_comment, is_filled, is_anchor_uri}
use Rattle.rpki_locator.specs.Locator.{key_digits, lines_part, locator_text, text_parts, TextParts}
use Rattle.rpki_locator.specs.Locator.{IsLocatorError}
use Rattle.rpki_locator.specs.declared.error.LocatorError.{LocatorError}
use Rattle.rpki_locator.specs.declared.error.LocatorError.TheVariants as Read
use Rattle.rpki_locator.proofs.LineLaws.{all-pass, one-fails}
use Rattle.rpki_issue.specs.Locators.{line_octets, lines_octets, folded, info_digits, locator_octets}
use Rattle.rpki_issue.specs.Locators.{IsMemory, IsLocatorReadBack, IsKeyRead}

-- ---- octets of a line

-- it ends no line
pub record IsPlain (b : ℕ) : Type 0 where
  pub feed : b ≢ 10
  pub return : b ≢ 13

abbrev pub IsLine : List ℕ → Type 0
IsLine = All IsPlain

plain-by : (p : ℕ → Bool) → p 10 ≡ false → p 13 ≡ false → (b : ℕ) → p b ≡ true → IsPlain b
plain-by p ten thirteen b h = record {
  feed = λ e. let same : true ≡ false = sym h ∙ ap p e ∙ ten in cc;
  return = λ e. let same : true ≡ false = sym h ∙ ap p e ∙ thirteen in cc;
}

line-by : (p : ℕ → Bool) → p 10 ≡ false → p 13 ≡ false → (xs : List ℕ) → list_all p xs ≡ true → IsLine xs
line-by p ten thirteen xs h =
    let all = AllPass-from_list_all p xs h in λ k d below. plain-by p ten thirteen _ (all k d below)

no-feed : (xs : List ℕ) → IsLine xs → All (λ b. ends_line b ≡ false) xs
no-feed xs h = λ k d below. ne_eqb _ 10 (h k d below).feed

last-of : (x : ℕ) (xs : List ℕ) → drop (length xs) (x ∷ xs) ≡ get_or (x ∷ xs) (length xs) 0 ∷ []
last-of x xs =
    drop_more (x ∷ xs) (length xs) 0 (omega arith)
    ∙ ap (λ (t : List ℕ). get_or (x ∷ xs) (length xs) 0 ∷ t) (drop_all (length xs + 1) (x ∷ xs) (omega arith))

no-return : (xs : List ℕ) → IsLine xs → ends_with nat_eq xs (13 ∷ []) ≡ false
no-return [] h = refl
no-return (x ∷ xs) h =
    let other : nat_eq 13 (get_or (x ∷ xs) (length xs) 0) ≡ false =
    ne_eqb 13 _ (λ e. (h (length xs) 0 (omega arith)).return (sym e)) in
    let at : length (x ∷ xs) - 1 ≡ length xs = omega arith in
    rw (at, last-of x xs, other) refl

kept-line : (xs : List ℕ) → IsLine xs → without_return xs ≡ xs
kept-line xs h = rw (no-return xs h) refl

-- ---- lines

pub lines-written : (lines : List (List ℕ)) → All IsLine lines → lines_of (lines_octets lines) ≡ lines ++ [] ∷ []
lines-written [] h = refl
lines-written (line ∷ lines) h =
    let first = All-head IsLine line lines h in
    let more = lines-written lines (All-tail IsLine line lines h) in
    let rest = lines_octets lines in
    let cut : slice_split ends_line (line ++ 10 ∷ rest) ≡ line ∷ slice_split ends_line rest =
    slice_split_at ends_line line 10 rest (no-feed line first) refl in
    let parts : lines_octets (line ∷ lines) ≡ line ++ 10 ∷ rest = append_assoc line (10 ∷ []) rest in
    ap lines_of parts ∙ ap (map without_return) cut
    ∙ (rw (kept-line line first) (ap (λ (ls : List (List ℕ)). line ∷ ls) more))

-- ---- the digits

zero-plain : IsPlain 0
zero-plain = record { feed = λ e. absurd (cc); return = λ e. absurd (cc) }

index-plain : (t : List ℕ) (i : ℕ) → IsLine t → IsPlain (slice_index t i)
index-plain t i h = elim (cases_lt i (length t)) [
  | inl below ↦ h i 0 below
  | inr past ↦ subst IsPlain (sym (get_or-eq_default t 0 past)) zero-plain
]

one-symbol : (t xs : List ℕ) (i : ℕ) → IsLine t → IsLine xs → IsLine (slice_index t i ∷ xs)
one-symbol t xs i h more = All-cons IsPlain (slice_index t i) xs (index-plain t i h) more

two-symbols : (t xs : List ℕ) (i j : ℕ) → IsLine t → IsLine xs → IsLine (slice_index t i ∷ slice_index t j ∷ xs)
two-symbols t xs i j h more = one-symbol t (slice_index t j ∷ xs) i h (one-symbol t xs j h more)

symbols-plain : (t m : List ℕ) → IsLine t → IsLine (encode_symbols t m)
unfolding encode_symbols
symbols-plain t [] h = All-nil IsPlain
symbols-plain t (a ∷ []) h = two-symbols t [] (a / 4) (a % 4 * 16) h (All-nil IsPlain)
symbols-plain t (a ∷ b ∷ []) h =
    two-symbols t (slice_index t (b % 16 * 4) ∷ []) (a / 4) (a % 4 * 16 + b / 16) h
    (one-symbol t [] (b % 16 * 4) h (All-nil IsPlain))
symbols-plain t (a ∷ b ∷ c ∷ rest) h =
    two-symbols t (slice_index t (b % 16 * 4 + c / 64) ∷ slice_index t (c % 64) ∷ encode_symbols t rest) (a / 4)
    (a % 4 * 16 + b / 16) h
    (two-symbols t (encode_symbols t rest) (b % 16 * 4 + c / 64) (c % 64) h (symbols-plain t rest h))

abbrev is_plain : ℕ → Bool
is_plain b = not (nat_eq b 10) && not (nat_eq b 13)

table-plain : IsLine standard.encode_table
table-plain = line-by is_plain refl refl standard.encode_table refl

equals-plain : IsPlain 61
equals-plain = record { feed = λ e. absurd (cc); return = λ e. absurd (cc) }

pub digits-plain : (m : List ℕ) → IsLine (encode_of standard m)
digits-plain m =
    All-append IsPlain (encode_symbols standard.encode_table m) (replicate (padding_len (length m)) 61)
    (symbols-plain standard.encode_table m table-plain) (All-replicate IsPlain (padding_len (length m)) 61 equals-plain)

chunks-plain : (n k : ℕ) (xs : List ℕ) → IsLine xs → All IsLine (first_chunks n k xs)
chunks-plain n zero xs h = All-nil IsLine
chunks-plain n (suc k) xs h =
    All-cons IsLine (take n xs) (first_chunks n k (drop n xs)) (All-take IsPlain n xs h)
    (chunks-plain n k (drop n xs) (All-drop IsPlain n xs h))

chunks-whole : (k : ℕ) (xs : List ℕ) → length xs ≤ 64 * k → key_digits (first_chunks 64 k xs) ≡ xs
chunks-whole zero xs h = sym (nil_from_length xs (omega (arith, h)))
chunks-whole (suc k) xs h =
    let more = chunks-whole k (drop 64 xs) (omega (arith, h, length-drop 64 xs)) in
    ap (λ (t : List ℕ). take 64 xs ++ t) more ∙ take-append-drop 64 xs

pub folded-plain : (xs : List ℕ) → IsLine xs → All IsLine (folded xs)
unfolding folded
folded-plain xs h = chunks-plain 64 ((length xs + 63) / 64) xs h

pub folded-whole : (xs : List ℕ) → key_digits (folded xs) ≡ xs
unfolding folded
folded-whole xs = chunks-whole ((length xs + 63) / 64) xs (omega arith)

pub folded-none : (xs : List ℕ) → length xs ≡ 0 → folded xs ≡ []
unfolding folded
folded-none xs none =
    let e : (length xs + 63) / 64 ≡ 0 = omega (arith, none) in ap (λ (k : ℕ). first_chunks 64 k xs) e

chunk-is : (all chunk rest : List ℕ) → all ≡ chunk ++ rest → length chunk ≡ min 64 (length all)
    → (take 64 all ≡ chunk) × (drop 64 all ≡ rest)
chunk-is all chunk rest parts size =
    let sum = ap length parts ∙ length-append chunk rest in
    elim (cases_lt (length all) 64) [
      | inl short ↦
          let none : rest ≡ [] = nil_from_length rest (omega arith) in
          let whole : all ≡ chunk = parts ∙ ap (λ (t : List ℕ). chunk ++ t) none ∙ append-nil chunk in
          (take_all 64 all (omega arith) ∙ whole, drop_all 64 all (omega arith) ∙ sym none)
      | inr long ↦
          let exact : length chunk ≡ 64 = omega arith in
          (rw parts (take_at chunk rest 64 exact), rw parts (drop_at chunk rest 64 exact))
    ]

-- a chunk is a line
pub folded-first : (all chunk rest : List ℕ) → all ≡ chunk ++ rest → length chunk ≡ min 64 (length all)
    → 0 < length all → folded all ≡ chunk ∷ folded rest
unfolding folded
folded-first all chunk rest parts size some =
    let is = chunk-is all chunk rest parts size in
    let sum = ap length parts ∙ length-append chunk rest in
    let one : (length all + 63) / 64 ≡ suc ((length rest + 63) / 64) = omega (arith, sum, size, some) in
    ap (λ (k : ℕ). first_chunks 64 k all) one
    ∙ ap (λ (t : List ℕ). t ∷ first_chunks 64 ((length rest + 63) / 64) (drop 64 all)) is.0
    ∙ ap (λ (t : List ℕ). chunk ∷ first_chunks 64 ((length rest + 63) / 64) t) is.1

pub one-more-line : (before chunk rest all : List ℕ) → all ≡ chunk ++ rest → length chunk ≡ min 64 (length all)
    → 0 < length all
    → (before ++ line_octets chunk) ++ lines_octets (folded rest) ≡ before ++ lines_octets (folded all)
one-more-line before chunk rest all parts size some =
    append_assoc before (line_octets chunk) (lines_octets (folded rest))
    ∙ ap (λ (ls : List (List ℕ)). before ++ lines_octets ls) (sym (folded-first all chunk rest parts size some))

-- ---- the URIs

-- a line that is neither a comment nor empty
pub record IsUriLine (text : List ℕ) : Type 0 where
  pub plain : IsLine text
  pub comment : is_comment text ≡ false
  pub filled : is_filled text ≡ true

bytes-by : (v d : Bool) (a b : Option Error)
    → ((is_none (if not v then Some InvalidCharacters else a) && d)
    || is_none (if not v then Some InvalidCharacters else b)) ≡ true → v ≡ true
bytes-by true d a b h = refl
bytes-by false d a b h = absurd (cc)

uri-bytes : (text : List ℕ) → is_anchor_uri text ≡ true → list_all is_uri_byte text ≡ true
unfolding rsync_refusal https_refusal
uri-bytes text h = bytes-by (list_all is_uri_byte text) _ _ _ h

uri-plain : (text : List ℕ) → list_all is_uri_byte text ≡ true → IsLine text
unfolding is_uri_byte
uri-plain text h = line-by is_uri_byte refl refl text h

no-number-sign : (x : ℕ) → is_uri_byte x ≡ true → nat_eq 35 x ≡ false
unfolding is_uri_byte
no-number-sign x h =
    ne_eqb 35 x (λ e. let same : is_uri_byte 35 ≡ true = ap is_uri_byte e ∙ h in
    let not : is_uri_byte 35 ≡ false = refl in cc)

nothing-anchors : is_anchor_uri [] ≡ false
unfolding rsync_refusal https_refusal
nothing-anchors = refl

uri-line : (text : List ℕ) → is_anchor_uri text ≡ true → IsUriLine text
uri-line [] h = absurd (let no = nothing-anchors in let same : true ≡ false = sym h ∙ no in cc)
uri-line (x ∷ text) h =
    let bytes = uri-bytes (x ∷ text) h in
    let first = (and_parts (is_uri_byte x) (list_all is_uri_byte text) bytes).0 in
    let some : nat_eq (length (x ∷ text)) 0 ≡ false = ne_eqb (length (x ∷ text)) 0 (λ e. omega (arith, e)) in
    record {
      plain = uri-plain (x ∷ text) bytes;
      comment = rw (no-number-sign x first) refl;
      filled = rw some refl;
    }

-- ---- which URIs a locator may have

other-scheme : (text : List ℕ) → has_scheme text ≡ true → is_none (https_refusal text) ≡ false
unfolding https_refusal
other-scheme text h =
    let same : lowercase (take 8 text) ≡ codes "rsync://" = (bytes_eq-Decides _ _).0 h in
    let other : bytes_eq (lowercase (take 8 text)) (codes "https://") ≡ false = rw same refl in
    rw other (either (list_all is_uri_byte text))
  where
    either : (v : Bool) → is_none (if not v then Some InvalidCharacters else Some BadScheme) ≡ false
    either true = refl
    either false = refl

or-false : (a : Bool) → (a || false) ≡ a
or-false true = refl
or-false false = refl

pub short-locates : (text : List ℕ) (d : Bool) → IsRsync text → rsync_refusal text ≡ None → d ≡ is_dir (path_of text)
    → not d ≡ is_anchor_uri text
short-locates text d form read dir =
    rw (read, other-scheme text form.scheme, dir) (sym (or-false (not (is_dir (path_of text)))))

long-refused : (text : List ℕ) → IsRsync text → 3080 ≤ length text → is_none (rsync_refusal text) ≡ false
unfolding rsync_refusal path_refusal
long-refused text form long =
    let rest : nat_le 3072 (length (drop 8 text)) ≡ true =
    le-leb 3072 (length (drop 8 text)) (omega (arith, length-drop 8 text, long)) in
    rw (form.characters, form.scheme, rest) refl

pub long-locates : (text : List ℕ) → IsRsync text → 3080 ≤ length text → is_anchor_uri text ≡ false
long-locates text form long = rw (long-refused text form long, other-scheme text form.scheme) refl

-- each of these is one
pub uri-lines : (uris : List (List ℕ)) → prefix_len is_anchor_uri uris ≡ length uris → All IsUriLine uris
uri-lines uris all =
    λ k d below. uri-line _ (prefix_len_passes is_anchor_uri uris k d (omega (arith, all, below)))

-- ---- the text

no-comments : (uris more : List (List ℕ)) → 0 < length uris → All IsUriLine uris
    → prefix_len is_comment (uris ++ more) ≡ 0
no-comments [] more some h = absurd (omega (arith, some))
no-comments (uri ∷ uris) more some h = rw (All-head IsUriLine uri uris h).comment refl

all-filled : (uris more : List (List ℕ)) → All IsUriLine uris → prefix_len is_filled (uris ++ [] ∷ more) ≡ length uris
all-filled [] more h = refl
all-filled (uri ∷ uris) more h =
    let more = all-filled uris more (All-tail IsUriLine uri uris h) in
    rw ((All-head IsUriLine uri uris h).filled, more) (omega arith)

lines-read : (uris more : List (List ℕ)) (key : List ℕ) → 0 < length uris
    → prefix_len is_anchor_uri uris ≡ length uris → decode_of standard (key_digits more) ≡ Ok key
    → lines_part (uris ++ [] ∷ more) ≡ Ok (text_parts uris (0 + length uris + 1 + 1) key)
lines-read uris more key some all decoded =
    let each = uri-lines uris all in
    let none = no-comments uris ([] ∷ more) some each in
    let filled = all-filled uris more each in
    let front = take_at uris ([] ∷ more) (length uris) refl in
    let back = drop_at uris ([] ∷ more) (length uris) refl in
    let there : nat_eq (length uris) 0 ≡ false = ne_eqb (length uris) 0 (λ e. omega (arith, e, some)) in
    let whole : nat_lt (length uris) (length uris) ≡ false = le-ltb (length uris) (length uris) (omega arith) in
    rw (none, filled, front, back, there, all, whole, decoded) refl

digits-behind : (lines : List (List ℕ)) → key_digits (lines ++ [] ∷ []) ≡ key_digits lines
digits-behind lines = flat_map-append (λ (line : List ℕ). line) lines ([] ∷ []) ∙ append-nil (key_digits lines)

pub text-read : (uris : List (List ℕ)) (digits key : List ℕ) → 0 < length uris
    → prefix_len is_anchor_uri uris ≡ length uris → IsLine digits → decode_of standard digits ≡ Ok key
    → locator_text (lines_octets (uris ++ [] ∷ folded digits)) ≡ Ok (text_parts uris (0 + length uris + 1 + 1) key)
text-read uris digits key some all plain decoded =
    let each = uri-lines uris all in
    let lines : All IsLine (uris ++ [] ∷ folded digits) =
    All-append IsLine uris ([] ∷ folded digits) (λ k d below. (each k d below).plain)
    (All-cons IsLine [] (folded digits) (All-nil IsPlain) (folded-plain digits plain)) in
    let more = folded digits ++ [] ∷ [] in
    let whole : key_digits more ≡ digits = digits-behind (folded digits) ∙ folded-whole digits in
    ap lines_part (lines-written (uris ++ [] ∷ folded digits) lines ∙ append_assoc uris ([] ∷ folded digits) ([] ∷ []))
    ∙ lines-read uris more key some all (ap (decode_of standard) whole ∙ decoded)

-- ---- URIs so far

-- those before a place are written, and a locator may have each
pub record AreWritten (uris : List (List ℕ)) (at : ℕ) (text : List ℕ) : Type 0 where
  pub text_is : text ≡ lines_octets (take at uris)
  pub pass : (k : ℕ) (d : List ℕ) → k < at → k < length uris → is_anchor_uri (get_or uris k d) ≡ true

pub none-written : (uris : List (List ℕ)) (text : List ℕ) → text ≡ [] → AreWritten uris 0 text
none-written uris text e = record { text_is = e; pass = λ k d l below. absurd (omega (arith, l)) }

pub one-written : (uris : List (List ℕ)) (at : ℕ) (text more uri : List ℕ) → AreWritten uris at text
    → at < length uris → uri ≡ get_or uris at uri → is_anchor_uri uri ≡ true → more ≡ text ++ line_octets uri
    → AreWritten uris (at + 1) more
one-written uris at text more uri h below this is e = record {
  text_is = e ∙ ap (λ (t : List ℕ). t ++ line_octets uri) h.text_is
      ∙ flat_map_more line_octets [] (take at uris) uri ∙ ap lines_octets (sym (next (at + 1) (omega arith)));
  pass = λ k d l inside. passes k d inside (or-last k l);
} where
  there : (d : List ℕ) → get_or uris at d ≡ uri
  there d = get_or_default uris at d uri below ∙ sym this

  next : (n : ℕ) → n ≡ suc at → take n uris ≡ take at uris ++ uri ∷ []
  next n e =
      rw e (take-suc uris at [] below) ∙ ap (λ (t : List ℕ). take at uris ++ t ∷ []) (there [])

  or-last : (k : ℕ) → k < at + 1 → (k < at) ⊎ (k ≡ at)
  or-last k l = elim (cases_lt k at) [
    | inl less ↦ inl less
    | inr more ↦ inr (omega (arith, more, l))
  ]

  passes : (k : ℕ) (d : List ℕ) → k < length uris → (k < at) ⊎ (k ≡ at) → is_anchor_uri (get_or uris k d) ≡ true
  passes k d inside (inl l) = h.pass k d l inside
  passes k d inside (inr e) = rw (e, there d) is

pub all-written : (uris : List (List ℕ)) (at : ℕ) (text : List ℕ) → AreWritten uris at text → length uris ≤ at
    → (text ≡ lines_octets uris) × (prefix_len is_anchor_uri uris ≡ length uris)
all-written uris at text h end = (
  h.text_is ∙ ap lines_octets (take_all at uris end),
  all-pass is_anchor_uri uris (λ k d below. h.pass k d (omega (arith, below, end)) below),
)

pub other-written : (uris : List (List ℕ)) (at : ℕ) (text uri : List ℕ) → AreWritten uris at text
    → at < length uris → uri ≡ get_or uris at uri → is_anchor_uri uri ≡ false → at ≡ prefix_len is_anchor_uri uris
other-written uris at text uri h below this fails =
    sym (one-fails is_anchor_uri uris at uri below (λ k l. h.pass k uri l (omega (arith, l, below)))
    (ap is_anchor_uri (sym this) ∙ fails))

-- all of them
pub whole-text : (uris digits : List (List ℕ)) (listed lined text : List ℕ) → listed ≡ lines_octets uris
    → lined ≡ listed ++ line_octets [] → text ≡ lined ++ lines_octets digits → text ≡ lines_octets (uris ++ [] ∷ digits)
whole-text uris digits listed lined text first empty last =
    last ∙ ap (λ (t : List ℕ). t ++ lines_octets digits) (empty ∙ ap (λ (t : List ℕ). t ++ line_octets []) first)
    ∙ append_assoc (lines_octets uris) (line_octets []) (lines_octets digits)
    ∙ sym (flat_map-append line_octets uris ([] ∷ digits))

-- ---- octets are one key

one-format : (f g : PublicKeyFormat) (c : List ℕ) → IsFormatContents f c → IsFormatContents g c → f ≡ g
one-format Rsa Rsa c h k = refl
one-format EcdsaP256 EcdsaP256 c h k = refl
one-format Rsa EcdsaP256 c h k =
    let e = leaf-first oid false (IsOnly rsa_encryption) (IsOnly ec_public_key) tt tt h.1.first k.first h.1.second
    k.second h.1.identifier k.one (sym h.1.parts ∙ k.parts) in
    absurd (let same : rsa_encryption ≡ ec_public_key = sym h.1.identifier.spelled ∙ e.0 ∙ k.one.spelled in cc)
one-format EcdsaP256 Rsa c h k =
    let e = leaf-first oid false (IsOnly ec_public_key) (IsOnly rsa_encryption) tt tt h.first k.1.first h.second
    k.1.second h.one k.1.identifier (sym h.parts ∙ k.1.parts) in
    absurd (let same : ec_public_key ≡ rsa_encryption = sym h.one.spelled ∙ e.0 ∙ k.1.identifier.spelled in cc)

one-contents : (k l : KeyParts) (c : List ℕ) → IsKeyContents k c → IsKeyContents l c → k ≡ l
one-contents k l c h g =
    let e = leaf-first sequence true IsFormatContents IsFormatContents k.format l.format h.first g.first h.second
    g.second h.one g.one (sym h.parts ∙ g.parts) in
    let format = one-format k.format l.format h.one.contents h.one.spelled
    (subst (IsFormatContents l.format) (sym e.0) g.one.spelled) in
    let two : SpellsLeaf bit_string false IsBits l.bits h.second =
    subst (SpellsLeaf bit_string false IsBits l.bits) (sym e.1) g.two in
    let same = contents-same bit_string false h.two.contents two.contents h.second h.two.value two.value in
    let bits = bits-one l.bits two.contents k.bits two.spelled (subst (IsBits k.bits) same h.two.spelled) in
    same-key k l format bits

one-spelled : (k l : KeyParts) (s : List ℕ) → SpellsKey k s → SpellsKey l s → k ≡ l
one-spelled k l s h g =
    let same = contents-same sequence true h.contents g.contents s h.value g.value in
    one-contents k l h.contents h.spelled (subst (IsKeyContents l) (sym same) g.spelled)

-- ---- what is read

abbrev uris_in : Result TextParts LocatorError → List (List ℕ)
uris_in (Ok parts) = parts.uris
uris_in (Err e) = []

abbrev key_in : Result TextParts LocatorError → List ℕ
key_in (Ok parts) = parts.key
key_in (Err e) = []

one-text : (said : Result TextParts LocatorError) (p q : TextParts) → said ≡ Ok p → said ≡ Ok q
    → (p.uris ≡ q.uris) × (p.key ≡ q.key)
one-text said p q h g = (ap uris_in (sym h ∙ g), ap key_in (sym h ∙ g))

only-memory : (e : DecodeError) (P : Type 0) → UnlessMemory e P → (P → ⊥) → e ≡ Fault.OutOfMemory
only-memory Fault.Truncated P h never = absurd (never h)
only-memory Fault.BadTag P h never = absurd (never h)
only-memory Fault.BadLength P h never = absurd (never h)
only-memory Fault.Unexpected P h never = absurd (never h)
only-memory (Fault.Content c) P h never = absurd (never h)
only-memory Fault.Trailing P h never = absurd (never h)
only-memory Fault.OutOfMemory P h never = refl

not-refused : (text : List ℕ) (parts : TextParts) (key : KeyParts) → locator_text text ≡ Ok parts
    → SpellsKey key parts.key → (e : LocatorError) → IsLocatorError text e → IsMemory e
not-refused text parts key said k (Read.OtherUri line) h = absurd (let no = sym said ∙ h in cc)
not-refused text parts key said k (Read.NoUri line) h = absurd (let no = sym said ∙ h in cc)
not-refused text parts key said k (Read.NoKey line) h = absurd (let no = sym said ∙ h in cc)
not-refused text parts key said k (Read.OtherText line) h = absurd (let no = sym said ∙ h in cc)
not-refused text parts key said k (Read.OtherKey line e) h =
    let same = (one-text (locator_text text) h.0 parts h.1 said).1 in
    only-memory e _ h.3.0 (λ none. none key (subst (SpellsKey key) (sym same) k))
not-refused text parts key said k Read.OutOfMemory h = tt

pub read-back : (uris : List (List ℕ)) (key : KeyParts) (text : List ℕ) → 0 < length uris
    → prefix_len is_anchor_uri uris ≡ length uris → IsKeyRead key → text ≡ locator_octets uris key
    → IsLocatorReadBack uris key text
read-back uris key text some all k e =
    let parts : TextParts = text_parts uris (0 + length uris + 1 + 1) (key_octets key) in
    let said : locator_text text ≡ Ok parts =
    ap locator_text e
    ∙ text-read uris (info_digits key) (key_octets key) some all (digits-plain (key_octets key)) k.decoded in
    record {
      read = (0 + length uris + 1 + 1, key_octets key, said, k.spelled);
      only = λ us other h.
          let same = one-text (locator_text text) (text_parts us h.0 h.1) parts h.2 said in
          (same.0, one-spelled other key (key_octets key) (subst (SpellsKey other) same.1 h.3) k.spelled);
      accepted = not-refused text parts key said k.spelled;
    }

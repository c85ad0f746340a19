-- Where certificates in the textual encoding begin in a text.
use Rattle.std.proofs.Common.{◌≡◌, ℕ, suc, ◌<◌, ◌≤◌, true, false, List, [], ◌∷◌, ◌++◌, length, get_or, drop}
use Rattle.std.proofs.Common.{map, refl, sym, ap, subst, ◌∙◌, append_assoc, arith}
use Rattle.std.proofs.Common.{drop-cons}
use Rattle.std.proofs.lemmas.List.{drop_all}
use Rattle.std.specs.Prelude.{Bool, Some, None}
use Rattle.rpkicert.specs.Pem.{begins, from_begin, begun_in, up_to, certificate_texts}

pub begin-here : (text : List ℕ) → begins text ≡ true → from_begin text ≡ Some text
unfolding from_begin
begin-here [] h = absurd cc
begin-here (octet ∷ text) h = rw h refl

step : (octet : ℕ) (text : List ℕ) → begins (octet ∷ text) ≡ false
    → from_begin text ≡ from_begin (octet ∷ text)
unfolding from_begin
step octet text h = rw h refl

-- not at this place, so at a later one
pub begin-later : (text : List ℕ) (at next : ℕ) → next ≡ suc at → at < length text
    → begins (drop at text) ≡ false → from_begin (drop next text) ≡ from_begin (drop at text)
begin-later text at next n h none =
    let parts = drop-cons text at 0 h in
    let later = step (get_or text at 0) (drop (suc at) text)
    (subst (λ (l : List ℕ). begins l ≡ false) parts none) in
    ap (λ (k : ℕ). from_begin (drop k text)) n ∙ later ∙ sym (ap from_begin parts)

pub begin-nowhere : (text : List ℕ) (at : ℕ) → length text ≤ at → from_begin (drop at text) ≡ None
unfolding from_begin
begin-nowhere text at h = rw (drop_all at text h) refl

-- what begins in a text is no longer than it
begin-size-in : (octet : ℕ) (text rest : List ℕ) (b : Bool) → begins (octet ∷ text) ≡ b
    → from_begin (octet ∷ text) ≡ Some rest → (from_begin text ≡ Some rest → length rest ≤ length text)
    → length rest ≤ suc (length text)
unfolding from_begin
begin-size-in octet text rest true h e k =
    let f : Some (octet ∷ text) ≡ Some rest = rw h at e in
    let same : octet ∷ text ≡ rest = cc in
    let size = ap (length {A = ℕ}) same in
    omega arith
begin-size-in octet text rest false h e k =
    let f : from_begin text ≡ Some rest = rw h at e in
    let size = k f in
    omega arith

pub begin-size : (text rest : List ℕ) → from_begin text ≡ Some rest → length rest ≤ length text
unfolding from_begin
begin-size [] rest e = absurd cc
begin-size (octet ∷ text) rest e =
    begin-size-in octet text rest (begins (octet ∷ text)) refl e (begin-size text rest)

-- ---- several certificates

begun : (octet : ℕ) (text : List ℕ) → begins (octet ∷ text) ≡ true
    → begun_in (octet ∷ text) ≡ (octet ∷ text) ∷ begun_in text
unfolding begun_in
begun octet text h = rw h refl

passed : (octet : ℕ) (text : List ℕ) → begins (octet ∷ text) ≡ false
    → begun_in (octet ∷ text) ≡ begun_in text
unfolding begun_in
passed octet text h = rw h refl

begun-here : (text : List ℕ) (at : ℕ) → at < length text → begins (drop at text) ≡ true
    → begun_in (drop at text) ≡ drop at text ∷ begun_in (drop (suc at) text)
begun-here text at h is =
    let parts = drop-cons text at 0 h in
    let here = begun (get_or text at 0) (drop (suc at) text)
    (subst (λ (l : List ℕ). begins l ≡ true) parts is) in
    ap begun_in parts ∙ here ∙ ap (λ (l : List ℕ). l ∷ begun_in (drop (suc at) text)) (sym parts)

-- one that begins at this place
pub cut-here : (text : List ℕ) (at next : ℕ) (texts : List (List ℕ)) (one : List ℕ) → next ≡ suc at → at < length text
    → begins (drop at text) ≡ true
    → one ≡ up_to (drop at text) (from_begin (drop 1 (drop at text)))
    → (texts ++ one ∷ []) ++ certificate_texts (drop next text) ≡ texts ++ certificate_texts (drop at text)
cut-here text at next texts one n h is e =
    append_assoc texts (one ∷ []) (certificate_texts (drop next text))
    ∙ ap (λ (w : List ℕ). texts ++ w ∷ certificate_texts (drop next text)) e
    ∙ ap (λ (k : ℕ). texts ++ up_to (drop at text) (from_begin (drop 1 (drop at text)))
    ∷ certificate_texts (drop k text)) n
    ∙ ap (λ (l : List (List ℕ)). texts ++ map (λ begun. up_to begun (from_begin (drop 1 begun))) l)
    (sym (begun-here text at h is))

-- none that begins at this place
pub cut-past : (text : List ℕ) (at next : ℕ) → next ≡ suc at → at < length text
    → begins (drop at text) ≡ false
    → certificate_texts (drop next text) ≡ certificate_texts (drop at text)
cut-past text at next n h none =
    let parts = drop-cons text at 0 h in
    let past = passed (get_or text at 0) (drop (suc at) text)
    (subst (λ (l : List ℕ). begins l ≡ false) parts none) in
    ap (λ (k : ℕ). certificate_texts (drop k text)) n
    ∙ ap (λ (l : List (List ℕ)). map (λ begun. up_to begun (from_begin (drop 1 begun))) l)
    (sym past ∙ sym (ap begun_in parts))

pub cut-nowhere : (text : List ℕ) (at : ℕ) → length text ≤ at → certificate_texts (drop at text) ≡ []
unfolding begun_in
cut-nowhere text at h = rw (drop_all at text h) refl

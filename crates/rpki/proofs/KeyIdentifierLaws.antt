-- Key identifiers: their octets, and their digits.
use Rattle.std.proofs.Common.{◌≡◌, ◌≢◌, ◌↔◌, ℕ, zero, suc, ◌+◌, ◌*◌, ◌/◌, ◌%◌, ◌<◌, false, List, [], ◌∷◌, ◌++◌, length}
use Rattle.std.proofs.Common.{get_or, take, map, refl, sym, ap, ◌∙◌, arith, append_assoc}
use Rattle.std.specs.Char.{to_ascii_uppercase}
use Rattle.rpki_der.specs.declared.error.DecodeError.{DecodeError}
use Rattle.rpki_der.specs.declared.error.DecodeError.TheVariants.{Truncated, BadTag, BadLength, Unexpected, Content}
use Rattle.rpki_der.specs.declared.error.DecodeError.TheVariants.{Trailing, OutOfMemory}
use Rattle.rpki_der.specs.Prelude.{octet_string, AreOctets, Accepts, Refusal, SpellsContents, SpellsLeaf}
use Rattle.rpki_der.specs.Prelude.{IsContentsFault}
use Rattle.rpki_der.proofs.LeavesLaws.{leaf-refused, leaf-accepted, leaf-bad, dropped-refused, dropped-accepted}
use Rattle.rpki_der.specs.Prelude.{tlv, octet_string_legal}
use Rattle.rpki_der.proofs.EncodeLaws.{leaf-legal, tlv-same}
use Rattle.rpki_text.specs.HexText.{hex_digit, hex_text}
use Rattle.std.proofs.Math.ListN.{set}
use Rattle.std.proofs.lemmas.List.{length-map, get_or-map, take_more, take_more_set, take_all, map-append}
use Rattle.rpki_text.proofs.HexLaws.{length-hex_text, hex_text-append}
use Rattle.rpki.specs.UnknownAlgorithm.{IsContentWith}
use Rattle.rpki.specs.AnyValue.{SpellsAny}
use Rattle.rpki.specs.KeyIdentifier.{IsKeyIdentifier, SpellsKeyIdentifier, identifier_error, TellsOfContents}
use Rattle.rpki.specs.KeyIdentifier.{IsIdentifierFault, IsHexOf}

tells : (s : List ℕ) (e : DecodeError) → IsContentsFault octet_string false s e → TellsOfContents e
tells s Truncated h = tt
tells s BadTag h = tt
tells s BadLength h = tt
tells s Unexpected h = tt
tells s (Content x) h = absurd h
tells s Trailing h = tt
tells s OutOfMemory h = tt

pub not-octets : (s q r : List ℕ) (e : DecodeError) → r ≡ s
    → Refusal (SpellsContents octet_string false) (IsContentsFault octet_string false) s q e
    → Refusal SpellsKeyIdentifier (IsIdentifierFault IsKeyIdentifier) s r e
not-octets s q r e same h =
    let k = leaf-refused octet_string false IsKeyIdentifier s q r e same h in
    record { unchanged = k.unchanged; refuses = k.refuses; kind = record { fault = k.kind; text = tells s e h.kind } }

pub identifier-read : (s c r k : List ℕ) → Accepts (SpellsContents octet_string false) s c r → IsKeyIdentifier k c
    → Accepts SpellsKeyIdentifier s k r
identifier-read s c r k a h = leaf-accepted octet_string false IsKeyIdentifier s c r k a h (λ w g. sym g.same ∙ h.same)

pub other-size : (s c q r : List ℕ) (e : DecodeError) → r ≡ s → Accepts (SpellsContents octet_string false) s c q
    → length c ≢ 20 → IsContentWith identifier_error e
    → Refusal SpellsKeyIdentifier (IsIdentifierFault IsKeyIdentifier) s r e
other-size s c q r Truncated same a ne h = absurd h
other-size s c q r BadTag same a ne h = absurd h
other-size s c q r BadLength same a ne h = absurd h
other-size s c q r Unexpected same a ne h = absurd h
other-size s c q r Trailing same a ne h = absurd h
other-size s c q r OutOfMemory same a ne h = absurd h
other-size s c q r (Content x) same a ne h =
    let k = leaf-bad octet_string false IsKeyIdentifier s c q r x same a (λ v g. ne g.size) in
    record { unchanged = k.unchanged; refuses = k.refuses; kind = record { fault = k.kind; text = h } }

-- what is written

pub identifier-spelled : (k : List ℕ) → length k ≡ 20 → SpellsKeyIdentifier k (tlv octet_string false k)
identifier-spelled k size = leaf-legal octet_string false IsKeyIdentifier k k octet_string_legal (omega arith)
    (record { same = refl; size = size })

pub identifier-same : (k l : List ℕ) → length k ≡ 20 → length l ≡ 20
    → (tlv octet_string false k ≡ tlv octet_string false l) ↔ (k ≡ l)
identifier-same k l size size' = (
  λ e. tlv-same octet_string false k l (omega arith) (omega arith) e,
  λ e. ap
      (λ (x : List ℕ). tlv octet_string false x) e,
)

-- the identifier is dropped

pub any-read : (s k r : List ℕ) → Accepts SpellsKeyIdentifier s k r
    → Accepts (SpellsLeaf octet_string false (SpellsAny IsKeyIdentifier)) s tt r
any-read s k r a = dropped-accepted octet_string false IsKeyIdentifier (SpellsAny IsKeyIdentifier) s k r
    (λ w c h. (w, h)) (λ c h. h) a

pub any-refused : (s r : List ℕ) (e : DecodeError)
    → Refusal SpellsKeyIdentifier (IsIdentifierFault IsKeyIdentifier) s r e
    → Refusal (SpellsLeaf octet_string false (SpellsAny IsKeyIdentifier))
    (IsIdentifierFault (SpellsAny IsKeyIdentifier)) s r e
any-refused s r e h =
    let k = dropped-refused octet_string false IsKeyIdentifier (SpellsAny IsKeyIdentifier) s r e (λ c g. g)
    (record { unchanged = h.unchanged; refuses = h.refuses; kind = h.kind.fault }) in
    record { unchanged = k.unchanged; refuses = k.refuses; kind = record { fault = k.kind; text = h.kind.text } }

-- ---- digits

pub other-length : (k text : List ℕ) → IsHexOf k text → length text ≢ 40 → ⊥
other-length k text h ne =
    ne (sym (length-map text to_ascii_uppercase) ∙ ap length h.digits ∙ length-hex_text k ∙ ap (λ (n : ℕ). 2 * n)
    h.size)

-- the two digits of an octet
hex-at : (k : List ℕ) (i : ℕ) → i < length k
    → (get_or (hex_text k) (2 * i) 0 ≡ hex_digit (get_or k i 0 / 16)) ×
    (get_or (hex_text k) (2 * i + 1) 0 ≡ hex_digit (get_or k i 0 % 16))
hex-at [] i lt = absurd (omega arith)
hex-at (b ∷ k) zero lt = (refl, refl)
hex-at (b ∷ k) (suc i) lt =
    let r = hex-at k i (omega arith) in
    let one : 2 * suc i ≡ suc (suc (2 * i)) = omega arith in
    let two : 2 * suc i + 1 ≡ suc (suc (2 * i + 1)) = omega arith in
    (ap (λ (n : ℕ). get_or (hex_text (b ∷ k)) n 0) one ∙ r.0, ap (λ (n : ℕ). get_or (hex_text (b ∷ k)) n 0) two ∙ r.1)

abbrev pub two-digits : List ℕ → ℕ → List ℕ
two-digits digits i =
    to_ascii_uppercase (get_or digits (2 * i) 0) ∷ to_ascii_uppercase (get_or digits (2 * i + 1) 0) ∷ []

octet-at : (k : List ℕ) (i : ℕ) → AreOctets k → i < length k → get_or k i 0 < 256
octet-at [] i o lt = absurd (omega arith)
octet-at (b ∷ k) zero o lt = o.0
octet-at (b ∷ k) (suc i) o lt = octet-at k i o.1 (omega arith)

both-digits : (a b c d : ℕ) → a ≡ c → b ≡ d → a ∷ b ∷ [] ≡ c ∷ d ∷ []
both-digits a b c d p q = cc

-- the two digits are those of no octet
abbrev pub NoOctet : ℕ → List ℕ → Type 0
NoOctet i digits = (b : ℕ) → b < 256 → hex_text (b ∷ []) ≡ two-digits digits i → ⊥

pub no-octet : (k digits : List ℕ) (i : ℕ) → i < 20 → IsHexOf k digits → length digits ≡ 40 → NoOctet i digits → ⊥
no-octet k digits i lt h size none =
    let in-k : i < length k = omega (arith, h.size) in
    let r = hex-at k i in-k in
    let up : (j : ℕ) → j < length digits → get_or (hex_text k) j 0 ≡ to_ascii_uppercase (get_or digits j 0) = λ j l.
    ap (λ (t : List ℕ). get_or t j 0) (sym h.digits) ∙ get_or-map to_ascii_uppercase digits j 0 0 l in
    none (get_or k i 0) (octet-at k i h.octets in-k)
    (both-digits (hex_digit (get_or k i 0 / 16)) (hex_digit (get_or k i 0 % 16))
    (to_ascii_uppercase (get_or digits (2 * i) 0)) (to_ascii_uppercase (get_or digits (2 * i + 1) 0))
    (sym r.0 ∙ up (2 * i) (omega arith)) (sym r.1 ∙ up (2 * i + 1) (omega arith)))

-- one octet more
pub one-more : (digits octets : List ℕ) (i b : ℕ) → i < 20 → length digits ≡ 40 → length octets ≡ 20
    → map to_ascii_uppercase (take (2 * i) digits) ≡ hex_text (take i octets)
    → hex_text (b ∷ []) ≡ two-digits digits i
    → map to_ascii_uppercase (take (2 * (i + 1)) digits) ≡ hex_text (take (i + 1) (set octets i b))
one-more digits octets i b lt size full before pair =
    let d0 = get_or digits (2 * i) 0 in
    let d1 = get_or digits (2 * i + 1) 0 in
    let next : 2 * (i + 1) ≡ (2 * i + 1) + 1 = omega arith in
    let cut : take (2 * (i + 1)) digits ≡ take (2 * i) digits ++ (d0 ∷ d1 ∷ []) =
    ap (λ (n : ℕ). take n digits) next ∙ take_more digits (2 * i + 1) 0 (omega arith) ∙ ap
    (λ (t : List ℕ). t ++ d1 ∷ []) (take_more digits (2 * i) 0 (omega arith)) ∙ append_assoc (take (2 * i) digits)
    (d0 ∷ []) (d1 ∷ []) in
    ap (map to_ascii_uppercase) cut ∙ map-append to_ascii_uppercase (take (2 * i) digits) (d0 ∷ d1 ∷ []) ∙ ap
    (λ (t : List ℕ). t ++ two-digits digits i) before
    ∙ ap (λ (t : List ℕ). hex_text (take i octets) ++ t) (sym pair) ∙ sym (hex_text-append (take i octets) (b ∷ []))
    ∙ ap hex_text (sym (take_more_set octets i b (omega arith)))

pub octets-set : (octets : List ℕ) (i b : ℕ) → AreOctets octets → b < 256 → AreOctets (set octets i b)
octets-set [] i b o lt = tt
octets-set (x ∷ octets) zero b o lt = (lt, o.1)
octets-set (x ∷ octets) (suc i) b o lt = (o.0, octets-set octets i b o.1 lt)

-- all of them
pub all-digits : (digits octets : List ℕ) (i : ℕ) → i ≡ 20 → AreOctets octets → length digits ≡ 40 → length octets ≡ 20
    → map to_ascii_uppercase (take (2 * i) digits) ≡ hex_text (take i octets) → IsHexOf octets digits
all-digits digits octets i all o size full h = record {
  octets = o;
  size = full;
  digits = ap (map to_ascii_uppercase) (sym (take_all (2 * i) digits (omega arith))) ∙ h ∙ ap hex_text
      (take_all i octets (omega arith));
}

-- Texts that are read as UTF-8 first, and texts that are written in chunks.
use Rattle.std.proofs.Common.{◌≡◌, ℕ, ◌%◌, take, subst, min, List, [], ◌++◌, length, sym, refl, ap, ◌∙◌, arith}
use Rattle.std.proofs.Common.{append_assoc, append-nil, length-append, inl, inr, Option, Some, None, IsUtf8}
use Rattle.std.proofs.Common.{slice_index, Err}
use Rattle.std.specs.Io.KnownBytes.{Appends}
use Rattle.std.specs.Str.{is_utf8}
use Rattle.std.specs.Str.Lossy.{utf8_valid_len}
use Rattle.std.proofs.lemmas.Str.{IsUtf8-from_is_utf8, is_utf8-from_IsUtf8}
use Rattle.std.proofs.lemmas.Bool.{cases_lt, false_from_ne_true}
use Rattle.std.proofs.lemmas.List.{nil_from_length}
use Rattle.base64.specs.declared.decode.DecodeError.TheVariants.{InvalidByte}
use Rattle.base64.specs.declared.engine.general_purpose.GeneralPurpose.{GeneralPurpose}
use Rattle.base64.specs.GeneralPurpose.{encode_of}
use Rattle.base64.proofs.EngineFacts.{encode_of-nil, encode_of-append}
use Rattle.rpki_base64.specs.Base64Text.{xml_decode_of, xml_bytes_decode_of}

pub xml-bytes-text : (bytes : List ℕ) → IsUtf8 bytes → xml_bytes_decode_of bytes ≡ xml_decode_of bytes
xml-bytes-text bytes h = rw (is_utf8-from_IsUtf8 bytes h) refl

pub xml-bytes-other : (bytes : List ℕ) → (IsUtf8 bytes → ⊥) → (n : ℕ) → n ≡ utf8_valid_len bytes
    → xml_bytes_decode_of bytes ≡ Err (InvalidByte n (slice_index bytes n))
xml-bytes-other bytes h n e = rw (false_from_ne_true (is_utf8 bytes) (λ k. h (IsUtf8-from_is_utf8 bytes k)), e) refl

-- a chunk is 768 octets, or the last
pub chunk-first : (e : GeneralPurpose) (all chunk rest : List ℕ) → all ≡ chunk ++ rest
    → length chunk ≡ min 768 (length all)
    → encode_of e chunk ++ encode_of e rest ≡ encode_of e all
chunk-first e all chunk rest parts size =
    let sum = ap length parts ∙ length-append chunk rest in
    elim (cases_lt (length all) 768) [
      | inl short ↦
          let none : rest ≡ [] = nil_from_length rest (omega arith) in
          rw (parts, none, encode_of-nil, append-nil, append-nil)
      | inr long ↦ let whole : length chunk % 3 ≡ 0 =
          omega arith in sym (encode_of-append e chunk rest whole) ∙ ap (encode_of e) (sym parts)
    ]

-- what is written twice is written at once
pub appends-append : (old mid new : Option (List ℕ)) (a b : List ℕ) → Appends old mid a → Appends mid new b
    → Appends old new (a ++ b)
appends-append None mid new a b h k = tt
appends-append (Some xs) None new a b h k = absurd h
appends-append (Some xs) (Some ys) None a b h k = absurd k
appends-append (Some xs) (Some ys) (Some zs) a b h k = k ∙ ap (λ s. s ++ b) h ∙ append_assoc xs a b

-- the part that is written, by how much of the buffer it is
pub appends-taken : (old new : Option (List ℕ)) (out text : List ℕ) (n k : ℕ) → take n out ≡ text → k ≡ n
    → Appends old new (take k out) → Appends old new text
appends-taken old new out text n k e s h = subst (λ (t : List ℕ). Appends old new t) (ap (λ j. take j out) s ∙ e) h

-- where nothing remains, all is encoded
pub all-encoded : (e : GeneralPurpose) (written all rest : List ℕ) → rest ≡ []
    → written ++ encode_of e rest ≡ encode_of e all → written ≡ encode_of e all
all-encoded e written all rest none h =
    sym (append-nil written) ∙ ap (λ s. written ++ s) (sym (ap (encode_of e) none ∙ encode_of-nil e)) ∙ h

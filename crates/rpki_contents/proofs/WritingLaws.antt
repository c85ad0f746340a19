-- Files that are written: they are short.
use Rattle.std.proofs.Common.{◌≡◌, ◌≤◌, ◌<◌, ◌+◌, ◌^◌, ◌∙◌, ◌∷◌, ◌++◌, ℕ, suc, true, false, Option, List, [], length}
use Rattle.std.proofs.Common.{refl, sym, ap, subst, arith, lit<, length-append}
use Rattle.std.specs.Prelude.{◌↔◌, IsTrue}
use Rattle.rpki_der.specs.TagName.{IsTag, ia5_string, bit_string, sequence}
use Rattle.rpki_der.specs.Header.{tlv}
use Rattle.rpki_der.specs.Members.{AreValues, IsValueList}
use Rattle.rpki_der.specs.ValueListLaws.{values_append, no_values, primitive_value, primitive_value_list}
use Rattle.rpki_der.specs.ValueListLaws.{constructed_value}
use Rattle.rpki_der.specs.ValueListLaws.{value_lists_append, sequence_legal}
use Rattle.rpki_der.specs.Written.{AppendsAllBut, AppendsBeginning}
use Rattle.rpki_der.proofs.WritingLaws.{beginning_then, beginning_more}
use Rattle.rpki_der.proofs.EncodeLaws.{tlv_at_most}
use Rattle.rpki_contents.specs.ListedFile.{ListedFile}
use Rattle.rpki_x509.specs.MessageDigest.{hash_contents}
use Rattle.rpki_contents.specs.Encoded.{file_contents, file_octets, files_octets, CanWriteFile}
use Rattle.rpki_contents.specs.Encoded.{CanWriteFiles}

pub ia5-legal : IsTag ia5_string
ia5-legal = record { below = lit< tt; named = λ _. lit< tt }

pub bits-legal : IsTag bit_string
bits-legal = record { below = lit< tt; named = λ _. lit< tt }

module _ (x : ListedFile) (h : CanWriteFile x) where
  pub few-contents : length (file_contents x) ≤ 2 ^ 31 + 100
  few-contents =
      omega (
        arith,
        h.name,
        h.hash,
        length-append (tlv ia5_string false x.0) (tlv bit_string false (hash_contents x.1)),
        tlv_at_most ia5_string false x.0,
        tlv_at_most bit_string false (hash_contents x.1),
      )

  pub few-octets : length (file_octets x) ≤ 2 ^ 31 + 200
  few-octets = omega (arith, few-contents, tlv_at_most sequence true (file_contents x))

  pub file-value : AreValues 1 (file_octets x)
  file-value =
      constructed_value sequence (file_contents x) sequence_legal (omega (arith, few-contents))
      (value_lists_append (tlv ia5_string false x.0) (tlv bit_string false (hash_contents x.1))
      (primitive_value_list ia5_string x.0 ia5-legal (omega (arith, h.name)))
      (primitive_value_list bit_string (hash_contents x.1) bits-legal (omega (arith, h.hash))))

pub files-values : (xs : List ListedFile) → CanWriteFiles xs → AreValues (length xs) (files_octets xs)
files-values [] h = no_values
files-values (x ∷ xs) h =
    let more : 1 + length xs ≡ suc (length xs) = omega arith in
    subst (λ (k : ℕ). AreValues k (files_octets (x ∷ xs))) more
    (values_append 1 (length xs) (file_octets x) (files_octets xs) (file-value x h.0) (files-values xs h.1))

pub value-list : (xs : List ListedFile) → CanWriteFiles xs → IsValueList (files_octets xs)
value-list xs h = (length xs, files-values xs h)

-- ---- file by file

pub first-fits : (rest xs : List ListedFile) (x : ListedFile) → rest ≡ x ∷ xs → CanWriteFiles rest
    → CanWriteFile x × CanWriteFiles xs
first-fits rest xs x is h = subst CanWriteFiles is h

pub first-octets : (rest xs : List ListedFile) (x : ListedFile) → rest ≡ x ∷ xs
    → files_octets rest ≡ file_octets x ++ files_octets xs
first-octets rest xs x is = ap files_octets is

-- a beginning of the rest was written
pub beginning-left : (a b c : Option (List ℕ)) (octets rest ys more : List ℕ) → AppendsAllBut a b octets rest
    → rest ≡ ys ++ more
    → AppendsBeginning b c ys → AppendsBeginning a c octets
beginning-left a b c octets rest ys more p is q =
    let whole : octets ≡ p.0 ++ (ys ++ more) = p.1 ∙ ap (λ (w : List ℕ). p.0 ++ w) is in
    subst (AppendsBeginning a c) (sym whole) (beginning_then a b c p.0 (ys ++ more) p.2 (beginning_more b c ys more q))

-- ---- whether a list can be written

pub fits-yes : (xs : List ListedFile) → CanWriteFiles xs → length (files_octets xs) < 2 ^ 63
    → IsTrue true ↔ (IsValueList (files_octets xs) × (length (files_octets xs) < 2 ^ 63))
fits-yes xs h few = (λ _. (value-list xs h, few), λ _. refl)

pub fits-no : (xs : List ListedFile) → 2 ^ 63 ≤ length (files_octets xs)
    → IsTrue false ↔ (IsValueList (files_octets xs) × (length (files_octets xs) < 2 ^ 63))
fits-no xs many = (
  λ z. let none : ⊥ = cc in absurd none,
  λ h. let none : ⊥ = omega (arith, many, h.1) in absurd none,
)

-- ---- the parts of a file

pub parts-values : (x : ListedFile) → CanWriteFile x → AreValues 2 (file_contents x)
parts-values x h =
    values_append 1 1 (tlv ia5_string false x.0) (tlv bit_string false (hash_contents x.1))
    (primitive_value ia5_string x.0 ia5-legal (omega (arith, h.name)))
    (primitive_value bit_string (hash_contents x.1) bits-legal (omega (arith, h.hash)))

pub parts-fit : (x : ListedFile) → CanWriteFile x
    → IsTrue true ↔ (IsValueList (file_contents x) × (length (file_contents x) < 2 ^ 63))
parts-fit x h = (λ _. ((2, parts-values x h), omega (arith, few-contents x h)), λ _. refl)

pub name-few : (x : ListedFile) → CanWriteFile x → length (tlv ia5_string false x.0) < 2 ^ 32
name-few x h = omega (arith, h.name, tlv_at_most ia5_string false x.0)

pub hash-few : (x : ListedFile) → CanWriteFile x → length (tlv bit_string false (hash_contents x.1)) < 2 ^ 32
hash-few x h = omega (arith, h.hash, tlv_at_most bit_string false (hash_contents x.1))

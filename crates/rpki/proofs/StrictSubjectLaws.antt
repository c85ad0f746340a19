-- The name of a subject is a strict name.
use Rattle.std.proofs.Common.{◌≡◌, ◌≤◌, ℕ, Bool, suc, zero, true, false, ◌<◌, ◌/◌, ◌%◌, List, [], ◌∷◌, length, refl, ap}
use Rattle.std.proofs.Common.{sym, arith, ◌^◌, lit<, append-nil, inl}
use Rattle.std.proofs.lemmas.List.Elements.{All-from_recursion}
use Rattle.rpki_der.specs.Prelude.{sequence, set, oid, printable_string, IsTag, tlv, AreOctets, IsOid, IsOidOf}
use Rattle.rpki_der.specs.Prelude.{is_printable, are_printable, IsPrintableText, sequence_legal, set_legal}
use Rattle.rpki_der.specs.Prelude.{primitive_value}
use Rattle.rpki_der.proofs.EncodeLaws.{leaf-legal, tlv_at_most}
use Rattle.rpki.specs.AlgorithmOctetsLaws.{oid-legal}
use Rattle.rpki.specs.Oids.{common_name}
use Rattle.rpki.specs.Name.{Attribute, attribute_of, IsAttribute, SpellsAttribute, SpellsSome, SpellsRelative}
use Rattle.rpki.specs.Name.{SpellsName}
use Rattle.rpki.specs.NameTable.{row_at, name_table}
use Rattle.rpki.specs.StrictName.{has_identifier, count_of, IsPrintable, IsPrintableOrUtf8, IsPermitted, IsStrict}
use Rattle.rpki.specs.StrictName.{attributes, IsRpkiName, IsRouterName}
use Rattle.rpki.proofs.InspectionLaws.{first-is-common}
use Rattle.rpki.specs.SubjectName.{attribute_contents, subject_octets}
use Rattle.rpki.proofs.NamedLaws.{plain-oid}
use Rattle.rpki.proofs.SubjectLaws.{digits-short, attribute-short, name-short, set-short}
use Rattle.rpki_text.specs.HexText.{hex_digit, hex_text}

digit-printable : (n : ℕ) → n < 16 → is_printable (hex_digit n) ≡ true
digit-printable zero h = refl
digit-printable (suc zero) h = refl
digit-printable (suc (suc zero)) h = refl
digit-printable (suc (suc (suc zero))) h = refl
digit-printable (suc (suc (suc (suc zero)))) h = refl
digit-printable (suc (suc (suc (suc (suc zero))))) h = refl
digit-printable (suc (suc (suc (suc (suc (suc zero)))))) h = refl
digit-printable (suc (suc (suc (suc (suc (suc (suc zero))))))) h = refl
digit-printable (suc (suc (suc (suc (suc (suc (suc (suc zero)))))))) h = refl
digit-printable (suc (suc (suc (suc (suc (suc (suc (suc (suc zero))))))))) h = refl
digit-printable (suc (suc (suc (suc (suc (suc (suc (suc (suc (suc zero)))))))))) h = refl
digit-printable (suc (suc (suc (suc (suc (suc (suc (suc (suc (suc (suc zero))))))))))) h = refl
digit-printable (suc (suc (suc (suc (suc (suc (suc (suc (suc (suc (suc (suc zero)))))))))))) h = refl
digit-printable (suc (suc (suc (suc (suc (suc (suc (suc (suc (suc (suc (suc (suc zero))))))))))))) h = refl
digit-printable (suc (suc (suc (suc (suc (suc (suc (suc (suc (suc (suc (suc (suc (suc zero)))))))))))))) h = refl
digit-printable (suc (suc (suc (suc (suc (suc (suc (suc (suc (suc (suc (suc (suc (suc (suc zero))))))))))))))) h = refl
digit-printable (suc (suc (suc (suc (suc (suc (suc (suc (suc (suc (suc (suc (suc (suc (suc (suc n)))))))))))))))) h =
    absurd (omega (arith, h))

pub hex-printable : (t : List ℕ) → AreOctets t → are_printable (hex_text t) ≡ true
hex-printable [] h = refl
hex-printable (b ∷ t) h =
    let small : b < 256 = h.0 in
    rw (digit-printable (b / 16) (omega arith), digit-printable (b % 16) (omega arith)) (hex-printable t h.1)

-- ---- the one attribute of the name

abbrev pub digits_value : List ℕ → List ℕ
digits_value k = tlv printable_string false (hex_text k)

abbrev pub subject_parts : List ℕ → List (List Attribute)
subject_parts k = (attribute_of common_name (digits_value k) ∷ []) ∷ []

one-spelled : {V : Type 0} (G : V → List ℕ → Type 0) (v : V) (p : List ℕ) → G v p → SpellsSome G (v ∷ []) p
one-spelled G v p h = record {
  some = λ e. omega (arith, ap length e);
  each = ([], record { front = p; parts = sym (append-nil p); spelled = h }, refl);
}

printable-legal : IsTag printable_string
printable-legal = record { below = lit< tt; named = λ _. lit< tt }

common-valid : IsOid common_name
common-valid = plain-oid common_name refl (lit< tt) (lit< tt)

attribute-spelled : (k : List ℕ) → length k ≡ 20
    → IsAttribute (attribute_of common_name (digits_value k)) (attribute_contents k)
attribute-spelled k size = record {
  identified = record {
    front = tlv oid false common_name;
    parts = refl;
    identifier = leaf-legal oid false IsOidOf common_name common_name oid-legal (lit< tt) (refl, common-valid);
  };
  one = primitive_value printable_string (hex_text k) printable-legal (digits-short k size);
}

pub subject-spelled : (k : List ℕ) → length k ≡ 20 → SpellsName (subject_parts k) (subject_octets k)
subject-spelled k size =
    let attribute = leaf-legal sequence true IsAttribute (attribute_of common_name (digits_value k))
    (attribute_contents k) sequence_legal (attribute-short k size) (attribute-spelled k size) in
    let relative = leaf-legal set true (SpellsSome SpellsAttribute) (attribute_of common_name (digits_value k) ∷ [])
    (tlv sequence true (attribute_contents k)) set_legal (name-short k size) (one-spelled SpellsAttribute _ _ attribute)
    in
    leaf-legal sequence true (SpellsSome SpellsRelative) (subject_parts k)
    (tlv set true (tlv sequence true (attribute_contents k))) sequence_legal (set-short k size)
    (one-spelled SpellsRelative _ _ relative)

digits-printable : (k : List ℕ) → length k ≡ 20 → are_printable (hex_text k) ≡ true → IsPrintable (digits_value k)
digits-printable k size digits = (
  hex_text k,
  leaf-legal printable_string false IsPrintableText (hex_text k) (hex_text k) printable-legal (digits-short k size)
      (refl, digits),
)

-- of one attribute there are not two
one-at-most : (o : List ℕ) (a : Attribute) → count_of o (a ∷ []) ≤ 1
one-at-most o a = at (has_identifier o a) refl
  where
    at : (b : Bool) → has_identifier o a ≡ b → count_of o (a ∷ []) ≤ 1
    at true e = rw e (omega arith)
    at false e = rw e (omega arith)

strict-subject : (S : List ℕ → Type 0) (k : List ℕ) → S (digits_value k)
    → IsStrict name_table S (attributes (subject_parts k))
strict-subject S k permitted = record {
  common = refl;
  once = λ n below. one-at-most (row_at name_table n).identifier (attribute_of common_name (digits_value k));
  permitted = All-from_recursion (IsPermitted name_table S) (attribute_of common_name (digits_value k) ∷ [])
      (record { number = 0; has = first-is-common; string = permitted }, tt);
}

pub subject-strict : (k : List ℕ) → length k ≡ 20 → are_printable (hex_text k) ≡ true
    → IsRpkiName (subject_octets k) × IsRouterName (subject_octets k)
subject-strict k size digits =
    let permitted = digits-printable k size digits in (
      (subject_parts k, subject-spelled k size, strict-subject IsPrintable k permitted),
      (subject_parts k, subject-spelled k size, strict-subject IsPrintableOrUtf8 k (inl permitted)),
    )

pub subject-fits : (k : List ℕ) → length k ≡ 20 → length (subject_octets k) < 2 ^ 63
subject-fits k size = omega (
  arith,
  set-short k size,
  tlv_at_most sequence true
      (tlv set true (tlv sequence true (attribute_contents k))),
)

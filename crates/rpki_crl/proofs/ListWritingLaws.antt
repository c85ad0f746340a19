-- A revocation list that is written: the extensions, and what is signed.
use Rattle.std.proofs.Common.{◌≡◌, ◌≤◌, ◌<◌, ◌^◌, ℕ, true, false, List, [], ◌∷◌, ◌++◌, length, refl, sym, arith}
use Rattle.std.proofs.Common.{lit<, length-append, inl}
use Rattle.std.proofs.lemmas.List.{append-nil}
use Rattle.rpki_der.specs.Prelude.{sequence, oid, octet_string, tlv, only, IsOid, sequence_legal}
use Rattle.rpki_der.proofs.EncodeLaws.{leaf-legal, tlv_at_most}
use Rattle.rpki_time.proofs.SerialReadingLaws.{serial-few, serial-spelled}
use Rattle.rpki.specs.Extension.{critical_octets, extension_contents}
use Rattle.rpki.specs.ExtensionValue.{ExtensionParts, AreShort, written_extension}
use Rattle.rpki.specs.KeyIdentifier.{IsKeyIdentifier}
use Rattle.rpki.proofs.ExtensionLaws.{written-read}
use Rattle.rpki.proofs.NamedLaws.{plain-oid}
use Rattle.rpki_x509.specs.Authority.{identifier_tag, SpellsTagged, SpellsAuthority}
use Rattle.rpki_x509.specs.Authority.{authority_key_identifier}
use Rattle.rpki_crl.specs.Crl.{crl_number, ListExtensions, IsAuthority, IsCrlNumber, each_extension}
use Rattle.rpki_crl.specs.Crl.{known_extensions, extensions_tag, extensions}
use Rattle.rpki_crl.specs.EncodedCrl.{authority_octets, authority_extension, number_extension, IsWrittenShort}
use Rattle.rpki_crl.specs.EncodedCrl.{two_octets, extensions_octets}
use Rattle.rpki_x509.specs.TagLaws.{zero_legal}

-- ---- an extension of few octets

contents-few : (x : ExtensionParts) → x.critical ≡ false → length x.identifier ≤ 3 → length x.content ≤ 40
    → length (extension_contents x.identifier x.critical x.content) ≤ 63
contents-few x plain one two =
    let flag : critical_octets x.critical ≡ [] = rw plain refl in
    rw flag (omega (
      arith,
      one,
      two,
      tlv_at_most oid false x.identifier,
      tlv_at_most octet_string false x.content,
      length-append (tlv oid false x.identifier ++ []) (tlv octet_string false x.content),
      length-append (tlv oid false x.identifier) [],
    ))

pub are-short : (x : ExtensionParts) → x.critical ≡ false → length x.identifier ≤ 3 → length x.content ≤ 40
    → AreShort x
are-short x plain one two = let few = contents-few x plain one two in omega (arith, few)

written-short : (x : ExtensionParts) → IsOid x.identifier → x.critical ≡ false → length x.identifier ≤ 3
    → length x.content ≤ 40 → IsWrittenShort x
written-short x valid plain one two =
    let few = contents-few x plain one two in
    record {
      spelled = written-read x (record { identifier = valid; short = are-short x plain one two });
      few = omega (
        arith,
        few,
        tlv_at_most sequence true (extension_contents x.identifier x.critical x.content),
      );
    }

-- ---- the two

pub authority-few : (k : List ℕ) → length k ≡ 20 → length (authority_octets k) ≤ 40
authority-few k size = omega (
  arith,
  size,
  tlv_at_most sequence true (tlv identifier_tag false k),
  tlv_at_most identifier_tag false k,
)

authority-spelled : (k : List ℕ) → length k ≡ 20 → SpellsAuthority k (authority_octets k)
authority-spelled k size =
    leaf-legal sequence true SpellsTagged k (tlv identifier_tag false k) sequence_legal
    (omega (arith, size, tlv_at_most identifier_tag false k))
    (leaf-legal identifier_tag false IsKeyIdentifier k k zero_legal (omega (arith, size))
    (record { same = refl; size = size }))

pub authority-short : (k : List ℕ) → length k ≡ 20 → IsWrittenShort (authority_extension k)
authority-short k size = written-short (authority_extension k)
    (plain-oid authority_key_identifier refl (lit< tt) (lit< tt)) refl (omega arith) (authority-few k size)

pub is-authority : (k : List ℕ) → length k ≡ 20 → IsAuthority k (authority_extension k)
is-authority k size = record { identifier = refl; critical = refl; content = authority-spelled k size }

pub number-short : (n : ℕ) → n < 2 ^ 159 → IsWrittenShort (number_extension n)
number-short n small =
    let few = serial-few n in
    written-short (number_extension n) (plain-oid crl_number refl (lit< tt) (lit< tt)) refl (omega arith)
    (omega (arith, few))

pub is-number : (n : ℕ) → n < 2 ^ 159 → IsCrlNumber n (number_extension n)
is-number n small = record { identifier = refl; critical = refl; content = serial-spelled n small }

-- ---- the list of the two, under its tag

pub two-few : (x : ListExtensions) → IsWrittenShort (authority_extension x.authority)
    → IsWrittenShort (number_extension x.number) → length (two_octets x) ≤ 200
two-few x one two = omega (
  arith,
  one.few,
  two.few,
  length-append (written_extension (authority_extension x.authority)) (written_extension (number_extension x.number)),
)

pub record AreTwoFew (x : ListExtensions) : Type 0 where
  pub contents : length (two_octets x) < 2 ^ 32
  pub inside : length (tlv sequence true (two_octets x)) < 2 ^ 32
  pub all : length (extensions_octets x) < 2 ^ 63

pub are-two-few : (x : ListExtensions) → IsWrittenShort (authority_extension x.authority)
    → IsWrittenShort (number_extension x.number) → AreTwoFew x
are-two-few x one two =
    let few = two-few x one two in
    let inside = tlv_at_most sequence true (two_octets x) in
    record {
      contents = omega (arith, few);
      inside = omega (arith, few, inside);
      all = omega (arith, few, inside, tlv_at_most extensions_tag true (tlv sequence true (two_octets x)));
    }

pub extensions-back : (x : ListExtensions) → IsWrittenShort (authority_extension x.authority)
    → IsWrittenShort (number_extension x.number) → IsAuthority x.authority (authority_extension x.authority)
    → IsCrlNumber x.number (number_extension x.number) → extensions.spells x (extensions_octets x)
extensions-back x one two authority number =
    let few = two-few x one two in
    let first = authority_extension x.authority in
    let second = number_extension x.number in
    leaf-legal extensions_tag true (only known_extensions).spells x (tlv sequence true (two_octets x)) zero_legal
    (omega (arith, few, tlv_at_most sequence true (two_octets x)))
    (record {
      value = first ∷ second ∷ [];
      spelled = leaf-legal sequence true each_extension.spells (first ∷ second ∷ []) (two_octets x) sequence_legal
          (omega (arith, few)) (
            written_extension second,
            record { front = written_extension first; parts = refl; spelled = one.spelled },
            (
              [],
              record {
                front = written_extension second;
                parts = sym (append-nil (written_extension second));
                spelled = two.spelled;
              },
              refl,
            ),
          );
      stands = inl (authority, number);
    })

-- A revocation list that is written is read as its normal form.
use Rattle.std.proofs.Common.{◌≡◌, ◌<◌, ◌^◌, ℕ, true, false, List, [], ◌∷◌, ◌++◌, map, length, Option, None, Some}
use Rattle.std.proofs.Common.{refl, arith, lit<, subst}
use Rattle.rpki_der.specs.Prelude.{IsTag, sequence, integer, bit_string, tlv, IsBits, AreBits, bits_of, bits_contents}
use Rattle.rpki_der.specs.Prelude.{only, then, optional_then, this_number, IsNumber, IsUnsigned, sequence_legal}
use Rattle.rpki_der.proofs.EncodeLaws.{leaf-legal, tlv-legal, bits-spelled}
use Rattle.rpki_time.specs.Time.{cut, IsTimeYear}
use Rattle.rpki_time.specs.Serial.{serial_number, serial_octets, serial_contents, contents_within}
use Rattle.rpki_time.specs.TimeValue.{time, time_octets}
use Rattle.rpki_time.proofs.SerialReadingLaws.{serial-spelled}
use Rattle.rpki_time.proofs.TimeValueLaws.{time_spelled}
use Rattle.rpki_time.proofs.WritingLaws.{serial_contents-are}
use Rattle.rpki.specs.Oids.{sha256_with_rsa_encryption}
use Rattle.rpki.specs.AlgorithmOctets.{algorithm_octets}
use Rattle.rpki.specs.AlgorithmOctetsLaws.{algorithm-spelled}
use Rattle.rpki.specs.Prelude.{name, SpellsNameOctets}
use Rattle.rpki.specs.SignedData.{signature_octets, written_contents}
use Rattle.rpki_crl.specs.Crl.{Entry, entry, entry_parts, each_entry, entries, ListExtensions, extensions}
use Rattle.rpki_crl.specs.Crl.{ListParts, signature, fields, fields_of}
use Rattle.rpki_crl.specs.EncodedCrl.{entry_contents, entry_octets, entries_octets, revoked_octets, IsEntry}
use Rattle.rpki_crl.specs.EncodedCrl.{AreEntries, extensions_octets, version_2, behind_octets, list_contents}
use Rattle.rpki_crl.specs.EncodedCrl.{list_octets, IsShortBehind, IsShortList, normal_entry, normal_revoked}
use Rattle.rpki_crl.specs.EncodedCrl.{behind_issuer, normal_behind, IsBehindReadBack, normal_list}
use Rattle.rpki_crl.specs.EncodedCrl.{IsListReadBack, rpki_algorithm, list_signed, IsShortCrl, IsCrlReadBack}
use Rattle.rpki_crl.specs.EncodedLaws.{entry-few}
use Rattle.rpki_x509.specs.TagLaws.{integer-legal}
use Rattle.rpki_crl.proofs.ListValueLaws.{list-value}
use Rattle.rpki_x509.proofs.WrittenLaws.{written-then, written-around, written-each, front-few, back-few, inside-few}

-- ---- the entries

pub entry-read : (x : Entry) → IsEntry x → entry.spells (normal_entry x) (entry_octets x)
entry-read x h =
    let few = entry-few x in
    written-around sequence entry_parts (normal_entry x) (entry_contents x) sequence_legal (omega (arith, few))
    (written-then serial_number (only time) x.0 (cut x.1) (serial_octets x.0) (time_octets x.1)
    (serial-spelled x.0 h.0) (time_spelled x.1 h.1))

revoked-read : (xs : Option (List Entry)) (b : ListExtensions) (y : List ℕ) → AreEntries xs
    → length (revoked_octets xs) < 2 ^ 32 → extensions.spells b y
    → (optional_then sequence entries (only extensions)).spells (normal_revoked xs, b) (revoked_octets xs ++ y)
revoked-read None b y h short e = e
revoked-read (Some xs) b y h short e = record {
  first = tlv sequence true (entries_octets xs);
  second = y;
  parts = refl;
  one = written-around sequence each_entry (map normal_entry xs) (entries_octets xs) sequence_legal
      (inside-few sequence true (entries_octets xs) short)
      (written-each entry.spells IsEntry normal_entry entry_octets entry-read xs h);
  two = e;
}

-- ---- what follows the issuer

pub revoked-short : (x : ListParts) → IsShortBehind x → length (revoked_octets x.revoked) < 2 ^ 32
revoked-short x short =
    let last = revoked_octets x.revoked ++ extensions_octets x.extensions in
    front-few (revoked_octets x.revoked) (extensions_octets x.extensions)
    (back-few (time_octets x.next_update) last
    (back-few (time_octets x.this_update) (time_octets x.next_update ++ last) short))

pub behind-read : (x : ListParts) → IsTimeYear x.this_update.date.year → IsTimeYear x.next_update.date.year
    → extensions.spells x.extensions (extensions_octets x.extensions) → IsBehindReadBack x
behind-read x issued next e = λ known short.
    let last = revoked_octets x.revoked ++ extensions_octets x.extensions in
    written-then time (then time (optional_then sequence entries (only extensions))) (cut x.this_update)
    (cut x.next_update, (normal_revoked x.revoked, x.extensions)) (time_octets x.this_update)
    (time_octets x.next_update ++ last) (time_spelled x.this_update issued)
    (written-then time (optional_then sequence entries (only extensions)) (cut x.next_update)
    (normal_revoked x.revoked, x.extensions) (time_octets x.next_update) last (time_spelled x.next_update next)
    (revoked-read x.revoked x.extensions (extensions_octets x.extensions) known (revoked-short x short) e))

-- ---- what is signed

pub behind-short : (x : ListParts) → IsShortList x → IsShortBehind x
behind-short x short =
    let algorithm = algorithm_octets sha256_with_rsa_encryption true in
    back-few x.issuer (behind_octets x)
    (back-few algorithm (x.issuer ++ behind_octets x)
    (back-few version_2 (algorithm ++ (x.issuer ++ behind_octets x)) short))

pub one-octet : serial_contents 1 ≡ 1 ∷ []
unfolding contents_within
one-octet = refl

version-read : (this_number 1).spells tt version_2
version-read = leaf-legal integer false (IsNumber 1) tt (1 ∷ []) integer-legal (lit< tt)
    (subst (λ (c : List ℕ). IsUnsigned 1 c) one-octet (serial_contents-are 1 (lit< tt)))

pub list-read : (x : ListParts) → SpellsNameOctets x.issuer x.issuer
    → behind_issuer.spells (normal_behind x) (behind_octets x) → IsShortList x → IsListReadBack x
list-read x named behind short =
    let algorithm = algorithm_octets sha256_with_rsa_encryption true in
    written-around sequence fields (fields_of (normal_list x)) (list_contents x) sequence_legal short
    (written-then (this_number 1) (then signature (then name behind_issuer)) tt (true, (x.issuer, normal_behind x))
    version_2 (algorithm ++ (x.issuer ++ behind_octets x)) version-read
    (written-then signature (then name behind_issuer) true (x.issuer, normal_behind x) algorithm
    (x.issuer ++ behind_octets x) (algorithm-spelled sha256_with_rsa_encryption true (lit< tt))
    (written-then name behind_issuer x.issuer (normal_behind x) x.issuer (behind_octets x) named behind)))

-- ---- a revocation list

string-legal : IsTag bit_string
string-legal = record { below = lit< tt; named = λ _. lit< tt }

all-used : (value : List ℕ) → AreBits (bits_of 0 value)
all-used value = record { few = omega arith; none = λ e. refl; zero = omega arith }

string-short : (x : ListParts) (value : List ℕ) → IsShortCrl x value → length (bits_contents (bits_of 0 value)) < 2 ^ 32
string-short x value short =
    let algorithm = algorithm_octets sha256_with_rsa_encryption true in
    inside-few bit_string false (bits_contents (bits_of 0 value))
    (back-few (list_octets x ++ algorithm) (signature_octets 0 value) short)

pub crl-read : (x : ListParts) (value : List ℕ) → IsListReadBack x → IsShortCrl x value → IsCrlReadBack x value
crl-read x value back short =
    let bits = bits_of 0 value in
    let contents = written_contents rpki_algorithm (list_signed x value) in
    record {
      value = list_signed x value;
      spelled = record {
        signed = record {
          contents = contents;
          value = tlv-legal sequence true contents sequence_legal short;
          spelled = record {
            text = algorithm_octets sha256_with_rsa_encryption true;
            bits = signature_octets 0 value;
            parts = refl;
            one = list-value (normal_list x) (list_octets x) back;
            named = algorithm-spelled sha256_with_rsa_encryption true (lit< tt);
            signature = record {
              unused = 0;
              string = leaf-legal bit_string false IsBits bits (bits_contents bits) string-legal
                  (string-short x value short) (bits-spelled bits (all-used value));
            };
          };
        };
        used = refl;
      };
      stands = record { same = refl; list = back; algorithm = refl };
    }

-- Manifests that are written: how short they are, and that they are read back.
use Rattle.std.proofs.Common.{◌≡◌, ◌<◌, ◌≤◌, ◌+◌, ◌^◌, ◌↔◌, ◌∙◌, ◌<ℤ◌, ◌*ℤ◌, ℕ, ℤ, pos, true, false, List, [], ◌∷◌}
use Rattle.std.proofs.Common.{◌++◌}
use Rattle.std.proofs.Common.{length, length-append, append_assoc, refl, subst, arith, lit<, IsTrue}
use Rattle.jiff.specs.Types.{DateTime}
use Rattle.jiff.specs.Words.{civil_nanos, civil_seconds}
use Rattle.jiff.proofs.Family.{civil_nanos-civil_seconds}
use Rattle.jiff.proofs.SpanFacts.{signed_arith}
use Rattle.rpki_der.specs.Prelude.{integer, ia5_string, bit_string, generalized_time, sequence, tlv, sequence_legal}
use Rattle.rpki_der.specs.Prelude.{AreBits, IsBits, bits_of, bits_contents}
use Rattle.rpki_der.proofs.EncodeLaws.{tlv-at-least, tlv-legal, leaf-legal, bits-spelled}
use Rattle.rpki_time.specs.Serial.{serial_contents, serial_octets}
use Rattle.rpki_time.specs.Time.{cut, IsTimeYear, IsFloorSecond}
use Rattle.rpki_time.specs.TimeText.{generalized_text, ReadsAsGeneralized}
use Rattle.rpki_time.specs.TimeValue.{generalized, generalized_octets}
use Rattle.rpki_time.specs.TimeValueLaws.{generalized-legal}
use Rattle.rpki_time.proofs.SerialReadingLaws.{serial-few, serial-spelled}
use Rattle.rpki_time.proofs.TextLaws.{generalized-reads-cut}
use Rattle.rpki.specs.Digest.{SpellsDigestName, digest_name_octets}
use Rattle.rpki_contents.specs.FileName.{is_file_name}
use Rattle.rpki_contents.specs.ListedFile.{ListedFile, kept_file, kept_parts, AreDistinct}
use Rattle.rpki_contents.specs.Manifest.{ManifestParts, fields, fields_of, each_file, AreInOrder}
use Rattle.rpki_x509.specs.MessageDigest.{hash_contents}
use Rattle.rpki_contents.specs.Encoded.{file_contents, file_octets, files_octets, CanWriteFile}
use Rattle.rpki_contents.specs.Encoded.{CanWriteFiles, AreNamed, front_octets, listing_octets, manifest_contents}
use Rattle.rpki_contents.specs.Encoded.{CanWriteManifest, IsShortManifest, normal_manifest, IsManifestReadBack}
use Rattle.rpki_contents.proofs.WritingLaws.{ia5-legal, bits-legal, few-contents}

-- ---- times without parts of a second

cut-nanos : (t : DateTime) → civil_nanos (cut t) ≡ civil_seconds t *ℤ pos 1_000_000_000
unfolding civil_seconds
cut-nanos t = let parts = civil_nanos-civil_seconds (cut t) in omega (arith, signed_arith, parts)

floor-is : (t : DateTime) (s : ℤ) → IsFloorSecond (civil_nanos t) s → s ≡ civil_seconds t
floor-is t s h =
    let parts = civil_nanos-civil_seconds t in
    let small = t.time.subsec_in in
    omega (arith, signed_arith, parts, small, h)

-- times are in order as they are written where their whole seconds are
pub seconds-in-order : (t u : DateTime) (a b : ℤ) → IsFloorSecond (civil_nanos t) a → IsFloorSecond (civil_nanos u) b
    → (a <ℤ b) ↔ AreInOrder (cut t) (cut u)
seconds-in-order t u a b h k =
    let one = floor-is t a h in
    let two = floor-is u b k in
    let this = cut-nanos t in
    let next = cut-nanos u in (
      λ less. omega (arith, signed_arith, less, one, two, this, next),
      λ less. omega (arith, signed_arith, less, one, two, this, next),
    )

-- ---- files are read back

all-used : (digest : List ℕ) → AreBits (bits_of 0 digest)
all-used digest = record { few = omega arith; none = λ e. refl; zero = omega arith }

file-back : (x : ListedFile) → CanWriteFile x → IsTrue (is_file_name x.0) → kept_file.spells x (file_octets x)
file-back x h named =
    let bits = bits_of 0 x.1 in
    leaf-legal sequence true kept_parts.spells x (file_contents x) sequence_legal (omega (arith, few-contents x h))
    (record {
      first = tlv ia5_string false x.0;
      second = tlv bit_string false (hash_contents x.1);
      parts = refl;
      one = record {
        value = x.0;
        spelled = tlv-legal ia5_string false x.0 ia5-legal (omega (arith, h.name));
        stands = (refl, named);
      };
      two = record {
        value = bits;
        spelled = leaf-legal bit_string false IsBits bits (bits_contents bits) bits-legal (omega (arith, h.hash))
            (bits-spelled bits (all-used x.1));
        stands = record { octets = refl; used = refl; size = h.hash };
      };
    })

files-back : (xs : List ListedFile) → CanWriteFiles xs → AreNamed xs → each_file.spells xs (files_octets xs)
files-back [] h named = refl
files-back (x ∷ xs) h named = (
  files_octets xs,
  record { front = file_octets x; parts = refl; spelled = file-back x h.0 named.0 },
  files-back xs h.1 named.1,
)

-- ---- the number and the times are read back

pub number-few : (n : ℕ) → length (serial_contents n) < 2 ^ 32
number-few n = omega (arith, serial-few n, tlv-at-least integer false (serial_contents n))

time-back : (t : DateTime) → IsTimeYear t.date.year → generalized.spells (cut t) (generalized_octets t)
time-back t year =
    leaf-legal generalized_time false (λ (u : DateTime) (text : List ℕ). ReadsAsGeneralized text u) (cut t)
    (generalized_text t) generalized-legal (lit< tt) (generalized-reads-cut t year)

-- ---- the whole

listed-few : (xs : List ListedFile) → length (files_octets xs) + 2 ≤ length (listing_octets xs)
unfolding listing_octets
listed-few xs =
    omega (
      arith,
      tlv-at-least sequence true (files_octets xs),
      length-append digest_name_octets (tlv sequence true (files_octets xs)),
    )

-- a length that announces all announces the list
listed-short : (x : ManifestParts) → IsShortManifest x → length (files_octets x.files) < 2 ^ 32
listed-short x short =
    omega (
      arith,
      short,
      listed-few x.files,
      length-append (front_octets x.number x.this_update x.next_update) (listing_octets x.files),
    )

manifest-short : {A B : Type 0} (x : ManifestParts) → A → (length (files_octets x.files) < 2 ^ 32 → B)
    → ((A × B) × (length (manifest_contents x) < 2 ^ 32)) ↔ IsShortManifest x
manifest-short x a b = (λ h. h.1, λ short. ((a, b (listed-short x short)), short))

-- the same of files that are those of the manifest
pub short-of : {A B : Type 0} (x : ManifestParts) (files : List ListedFile) → x.files ≡ files → A
    → (length (files_octets files) < 2 ^ 32 → B)
    → ((A × B) × (length (front_octets x.number x.this_update x.next_update ++ listing_octets files) < 2 ^ 32))
    ↔ IsShortManifest x
short-of {A} {B} x files e a =
    subst (λ (fs : List ListedFile). (length (files_octets fs) < 2 ^ 32 → B)
    → ((A × B) × (length (front_octets x.number x.this_update x.next_update ++ listing_octets fs) < 2 ^ 32))
    ↔ IsShortManifest x) e (λ b. manifest-short x a b)

in-order : (a b c rest : List ℕ) → ((a ++ b) ++ c) ++ rest ≡ a ++ (b ++ (c ++ rest))
in-order a b c rest = append_assoc (a ++ b) c rest ∙ append_assoc a b (c ++ rest)

-- what is known of the parts of a manifest
pub record IsKnown (x : ManifestParts) : Type 0 where
  pub number : x.number < 2 ^ 159
  pub this_year : IsTimeYear x.this_update.date.year
  pub next_year : IsTimeYear x.next_update.date.year
  pub algorithm : SpellsDigestName tt digest_name_octets
  pub named : AreNamed x.files
  pub distinct : AreDistinct x.files

fields-back : (x : ManifestParts) → IsKnown x → CanWriteManifest x → IsShortManifest x
    → fields.spells (fields_of (normal_manifest x)) (manifest_contents x)
unfolding front_octets listing_octets
fields-back x known can short =
    let number = serial_octets x.number in
    let this = generalized_octets x.this_update in
    let next = generalized_octets x.next_update in
    let listed = tlv sequence true (files_octets x.files) in
    let rest = digest_name_octets ++ listed in
    record {
      first = number;
      second = this ++ (next ++ rest);
      parts = in-order number this next rest;
      one = serial-spelled x.number known.number;
      two = record {
        first = this;
        second = next ++ rest;
        parts = refl;
        one = time-back x.this_update known.this_year;
        two = record {
          first = next;
          second = rest;
          parts = refl;
          one = time-back x.next_update known.next_year;
          two = record {
            first = digest_name_octets;
            second = listed;
            parts = refl;
            one = known.algorithm;
            two = leaf-legal sequence true each_file.spells x.files (files_octets x.files) sequence_legal
                (listed-short x short) (files-back x.files can.files known.named);
          };
        };
      };
    }

pub manifest-back : (x : ManifestParts) → IsKnown x → CanWriteManifest x → IsShortManifest x → IsManifestReadBack x
manifest-back x known can short = record {
  value = fields_of (normal_manifest x);
  spelled = leaf-legal sequence true fields.spells (fields_of (normal_manifest x)) (manifest_contents x) sequence_legal
      short (fields-back x known can short);
  stands = record { fields = refl; order = can.order; distinct = known.distinct };
}

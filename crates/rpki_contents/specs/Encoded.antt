-- Manifests as they are written (RFC 9286 4.2).
use Rattle.std.specs.Prelude.{◌≡◌, ◌<◌, ◌^◌, ℕ, IsTrue, true, false, List, [], ◌∷◌, ◌++◌, length}
use Rattle.jiff.specs.Types.{DateTime}
use Rattle.rpki_der.specs.Prelude.{ia5_string, bit_string, sequence, tlv}
use Rattle.rpki_time.specs.Serial.{serial_octets}
use Rattle.rpki_time.specs.Time.{cut}
use Rattle.rpki_time.specs.TimeValue.{generalized_octets}
use Rattle.rpki.specs.Digest.{digest_name_octets}
use Rattle.rpki_x509.specs.MessageDigest.{hash_contents}
use Rattle.rpki_contents.specs.FileName.{is_file_name}
use Rattle.rpki_contents.specs.ListedFile.{ListedFile}
use Rattle.rpki_contents.specs.Manifest.{ManifestParts, parts_of, AreInOrder, manifest}

-- a file: its name and its digest
abbrev pub file_contents : ListedFile → List ℕ
file_contents x = tlv ia5_string false x.0 ++ tlv bit_string false (hash_contents x.1)

abbrev pub file_octets : ListedFile → List ℕ
file_octets x = tlv sequence true (file_contents x)

abbrev pub files_octets : List ListedFile → List ℕ
files_octets [] = []
files_octets (x ∷ xs) = file_octets x ++ files_octets xs

-- a length announces each part of a file
pub record CanWriteFile (x : ListedFile) : Type 0 where
  pub name : length x.0 < 2 ^ 31
  pub hash : length x.1 ≡ 32

abbrev pub CanWriteFiles : List ListedFile → Type 0
CanWriteFiles [] = Unit {0}
CanWriteFiles (x ∷ xs) = CanWriteFile x × CanWriteFiles xs

-- each name is that of a file (RFC 9286 4.2.2)
abbrev pub AreNamed : List ListedFile → Type 0
AreNamed [] = Unit {0}
AreNamed (x ∷ xs) = IsTrue (is_file_name x.0) × AreNamed xs

-- the number and the times of a manifest
unfoldable pub front_octets : ℕ → DateTime → DateTime → List ℕ
front_octets number this next = serial_octets number ++ generalized_octets this ++ generalized_octets next

-- the identifier of SHA-256, and the files
unfoldable pub listing_octets : List ListedFile → List ℕ
listing_octets files = digest_name_octets ++ tlv sequence true (files_octets files)

abbrev pub manifest_contents : ManifestParts → List ℕ
manifest_contents x = front_octets x.number x.this_update x.next_update ++ listing_octets x.files

abbrev pub manifest_octets : ManifestParts → List ℕ
manifest_octets x = tlv sequence true (manifest_contents x)

-- A manifest that can be written: a length announces each part of a file, and the next update is later than this one as
-- they are written, without parts of a second.
pub record CanWriteManifest (x : ManifestParts) : Type 0 where
  pub files : CanWriteFiles x.files
  pub order : AreInOrder (cut x.this_update) (cut x.next_update)

-- the contents have fewer than 2^32 octets
abbrev pub IsShortManifest : ManifestParts → Type 0
IsShortManifest x = length (manifest_contents x) < 2 ^ 32

-- the manifest whose times have no parts of a second
abbrev pub normal_manifest : ManifestParts → ManifestParts
normal_manifest x = parts_of x.number (cut x.this_update) (cut x.next_update) x.files

-- what is written of the manifest is read as its normal form
abbrev pub IsManifestReadBack : ManifestParts → Type 0
IsManifestReadBack x = manifest.spells (normal_manifest x) (manifest_octets x)

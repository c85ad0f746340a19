-- What a status says of a manifest, and of the names of its files.
use Rattle.std.specs.Prelude.{◌≡◌, ℕ, List, length, ◌⊎◌, ◌≤◌, ◌<◌, ◌↔◌, Bool, IsTrue}
use Rattle.rpki_der.specs.Error.{error_number}
use Rattle.rpki_der.specs.Prelude.{number_of}
use Rattle.rpki_parse.specs.declared.malformed.Malformed.{Malformed}
use Rattle.rpki_contents.specs.declared.manifest_part.ManifestPart.{ManifestPart}
use Rattle.rpki_contents.specs.FilesInPlace.{AreFiles}
use Rattle.rpki_contents.specs.ListedFile.{ListedFile, file, AreDistinct}
use Rattle.rpki_contents.specs.Manifest.{ManifestParts, fields_of, AreInOrder}
use Rattle.rpki_contents.specs.ManifestView.{view_manifest, IsManifestError, IsManifestWrong}
use Rattle.rpki_c.specs.declared.manifest.ManifestParts.{ManifestParts as Parts}
use Rattle.rpki_c.specs.declared.manifest.ManifestFile.{ManifestFile}
use Rattle.rpki_c.specs.declared.span.Span.{Span}
use Rattle.rpki_c.specs.Span.{IsTakenOff}
use Rattle.rpki_c.specs.Time.{IsMoment}
use Rattle.rpki_c.specs.Whole.{IsRead}
use Rattle.rpki_c.specs.Status.{too_small}
use Rattle.rpki_contents.specs.declared.manifest_part.ManifestPart.TheVariants as P

-- ---- What a status says of the octets of a manifest, and of a file that it lists

-- the status of octets of which this part is wrong
abbrev pub manifest_part_number : ManifestPart → ℕ
manifest_part_number P.Manifest = 138
manifest_part_number P.Number = 139
manifest_part_number P.ThisUpdate = 140
manifest_part_number P.NextUpdate = 141
manifest_part_number P.HashAlgorithm = 142
manifest_part_number P.FileList = 143
manifest_part_number P.Order = 144

-- the octets are a manifest, but that some of its files may have the same name
pub record IsListing (x : ManifestParts) (s : List ℕ) : Type 0 where
  pub spelled : view_manifest.spells (fields_of x) s
  pub order : AreInOrder x.this_update x.next_update

-- the octets are such a manifest, whose parts these are
pub record HasManifest (s : List ℕ) (p : Parts) : Type 0 where
  pub manifest : ManifestParts
  pub listing : IsListing manifest s
  pub number : number_of p.manifest_number ≡ manifest.number
  pub this_update : IsMoment manifest.this_update p.this_update
  pub next_update : IsMoment manifest.next_update p.next_update
  pub files : AreFiles manifest.files p.files.octets.now
  pub count : p.count ≡ length manifest.files

-- Status 0: the octets are a manifest of these parts. Else the number of the malformed part, and nothing is
-- written.
abbrev pub IsManifestRead : List ℕ → ℕ → Parts → Parts → Type 0
IsManifestRead s = IsRead (HasManifest s) manifest_part_number (IsManifestWrong s)

-- Status 0: the octets are such a manifest, and nothing is written. Else the number of the malformed part, and the
-- number of the error, as a reader of that part returns it, is written.
abbrev pub IsManifestErrorRead : List ℕ → ℕ → ℕ → ℕ → Type 0
IsManifestErrorRead s status old new =
    ((status ≡ 0) × ((x : ManifestParts) × IsListing x s) × (new ≡ old))
    ⊎ ((q : Malformed ManifestPart) × IsManifestError s q × (status ≡ manifest_part_number q.part)
    × (new ≡ error_number q.error))

-- what is written of a file: its name and its digest
pub record HasFile (x : ListedFile) (p : ManifestFile) : Type 0 where
  pub name : p.name.octets.now ≡ x.0
  pub digest : p.digest ≡ x.1

-- a file is taken off the span
abbrev pub IsFileTaken : ℕ → Span → Span → ManifestFile → ManifestFile → Type 0
IsFileTaken = IsTakenOff file HasFile

-- ---- What a status says of the names of the files of a manifest

-- the octets are a manifest of so many files at most, and the answer says whether no two have the same name
pub record HasNames (s : List ℕ) (capacity : ℕ) (differ : Bool) : Type 0 where
  pub manifest : ManifestParts
  pub listing : IsListing manifest s
  pub few : length manifest.files ≤ capacity
  pub answer : IsTrue differ ↔ AreDistinct manifest.files

-- the octets are a manifest of more files
abbrev pub HasMoreNames : List ℕ → ℕ → Type 0
HasMoreNames s capacity = (x : ManifestParts) × IsListing x s × (capacity < length x.files)

-- Status 0: the octets are a manifest, and the answer says whether no two files have the same name. 9: it has more
-- files than the array has places. Else the number of the malformed part. The answer is written at status 0 alone.
abbrev pub AreNamesCompared : List ℕ → ℕ → ℕ → Bool → Bool → Type 0
AreNamesCompared s capacity status old new =
    ((status ≡ 0) × HasNames s capacity new)
    ⊎ (((status ≡ too_small) × HasMoreNames s capacity × (new ≡ old))
    ⊎ ((q : ManifestPart) × (status ≡ manifest_part_number q) × IsManifestWrong s q × (new ≡ old)))

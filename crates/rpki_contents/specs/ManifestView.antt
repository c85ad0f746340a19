-- Manifests that are read in place: what is where, and which part is wrong, and why (RFC 9286 4.2).
use Rattle.std.specs.Prelude.{◌≡◌, ℕ, true, List, [], ◌∷◌, codes, length, Option, Some, None, Result, Ok, Err}
use Rattle.rpki_der.specs.declared.error.DecodeError.{DecodeError}
use Rattle.rpki_der.specs.declared.error.DecodeError.TheVariants.{OutOfMemory}
use Rattle.rpki_der.specs.Prelude.{sequence, Refuses, Spells, SpellsNothing, SpellsContents, Format}
use Rattle.rpki_der.specs.Prelude.{this_oid, optional_of}
use Rattle.rpki_parse.specs.declared.malformed.Malformed.{Malformed}
use Rattle.rpki_parse.specs.Parts.{malformed}
use Rattle.rpki_x509.specs.Frame.{IsFrameFault}
use Rattle.rpki_time.specs.Serial.{serial_number}
use Rattle.rpki_time.specs.TimeValue.{generalized}
use Rattle.rpki.specs.Oids.{sha256}
use Rattle.rpki.specs.Prelude.{IsContentWith}
use Rattle.rpki_contents.specs.declared.file_view.FileView.{FileView}
use Rattle.rpki_contents.specs.declared.manifest_part.ManifestPart.{ManifestPart}
use Rattle.rpki_contents.specs.declared.manifest_part.ManifestPart.TheVariants as P
use Rattle.rpki_contents.specs.declared.manifest_view.ManifestView.{ManifestView}
use Rattle.rpki_contents.specs.ListedFile.{ListedFile, file}
use Rattle.rpki_contents.specs.FilesInPlace.{FileOctets, AreFiles, AreNoFiles}
use Rattle.rpki_contents.specs.Manifest.{ManifestParts, parts_of, Fields, fields_of, listing, fields_with}
use Rattle.rpki_contents.specs.Manifest.{listed_fields, AreInOrder}

-- ---- files

abbrev pub file_in : FileView → ListedFile
file_in x = (x.name.now, x.hash)

-- Of the remaining files the first was given, and the others remain now; none was given where none remained.
abbrev pub GivesFile : List ListedFile → Option FileView → List ℕ → Type 0
GivesFile [] found after = (optional_of file_in found ≡ None) × (after ≡ [])
GivesFile (x ∷ xs) found after = (optional_of file_in found ≡ Some x) × AreFiles xs after

-- ---- the list of files

abbrev pub view_list : Format (List ListedFile)
view_list = listing file

-- all of s is the list of these files, whose contents octets and count these are
pub record IsListOf (s : List ℕ) (v : FileOctets) (xs : List ListedFile) : Type 0 where
  pub spelled : view_list.spells xs s
  pub octets : spelled.contents ≡ v.octets
  pub count : length xs ≡ v.count

-- q is wrong in s, all of which should be a SEQUENCE: it isn't, and q is this part; or it is, and L says it of the
-- contents
pub data WholePart (part : ManifestPart) (L : List ℕ → Malformed ManifestPart → Type 0) (s : List ℕ)
    (q : Malformed ManifestPart) : Type 0 where
  NoFrame : SpellsNothing (SpellsContents sequence true) s → IsFrameFault sequence s q.error → q.part ≡ part
      → WholePart part L s q
  InFrame : (c : List ℕ) → SpellsContents sequence true c s → L c q → WholePart part L s q

-- all of s is to be the list of files
abbrev pub IsListWrong : List ℕ → Malformed ManifestPart → Type 0
IsListWrong = WholePart P.FileList (λ c q. AreNoFiles c q.error × (q.part ≡ P.FileList))

-- a reader of the list that is all of s
abbrev pub ReadsList : List ℕ → Result FileOctets DecodeError → Type 0
ReadsList s (Ok v) = (xs : List ListedFile) × IsListOf s v xs
ReadsList s (Err e) = IsListWrong s (malformed P.FileList e)

-- ---- the fields

abbrev pub view_fields : Format Fields
view_fields = fields_with file

abbrev pub view_manifest : Format Fields
view_manifest = listed_fields file

-- what the view says, with these files
abbrev pub parts_in : ManifestView → List ListedFile → ManifestParts
parts_in v xs = parts_of v.manifest_number v.this_update v.next_update xs

-- all of c is the fields, and the list of files has these contents octets and this count
pub record AreFieldsAt (c : List ℕ) (v : ManifestView) (xs : List ListedFile) : Type 0 where
  pub spelled : view_fields.spells (fields_of (parts_in v xs)) c
  pub octets : spelled.two.two.two.two.contents ≡ v.files.octets
  pub count : length xs ≡ v.files.count

-- ---- which part is wrong

-- q is wrong in s, which a value of F should begin: it doesn't, and q is this part, with the error of F; or it does,
-- and L says it of what follows
pub data FirstPart {V : Type 0} (F : Format V) (part : ManifestPart) (L : List ℕ → Malformed ManifestPart → Type 0)
    (s : List ℕ) (q : Malformed ManifestPart) : Type 0 where
  AtPart : Refuses F.spells s → F.fault s q.error → q.part ≡ part → FirstPart F part L s q
  Later : (v : V) (r : List ℕ) → Spells F.spells s v r → L r q → FirstPart F part L s q

-- all of c is to be the fields
abbrev pub AreFieldsWrong : List ℕ → Malformed ManifestPart → Type 0
AreFieldsWrong =
    FirstPart serial_number P.Number
    (FirstPart generalized P.ThisUpdate
    (FirstPart generalized P.NextUpdate
    (FirstPart (this_oid sha256) P.HashAlgorithm IsListWrong)))

-- ---- a manifest

-- all of s is a manifest of these files, but that some may have the same name
pub record IsManifestAt (s : List ℕ) (v : ManifestView) (xs : List ListedFile) : Type 0 where
  pub contents : List ℕ
  pub value : SpellsContents sequence true contents s
  pub fields : AreFieldsAt contents v xs
  pub order : AreInOrder v.this_update v.next_update

-- all of s is to be such a manifest: the SEQUENCE around all; then the fields; then that the times are in order
pub data IsManifestError (s : List ℕ) (q : Malformed ManifestPart) : Type 0 where
  InParts : WholePart P.Manifest AreFieldsWrong s q → IsManifestError s q
  OutOfOrder : (x : ManifestParts) → view_manifest.spells (fields_of x) s
      → (AreInOrder x.this_update x.next_update → ⊥) → q.part ≡ P.Order
      → IsContentWith (codes "next update not after this update") q.error → IsManifestError s q

-- this part is wrong, whatever the error
abbrev pub IsManifestWrong : List ℕ → ManifestPart → Type 0
IsManifestWrong s part = (e : DecodeError) × IsManifestError s (malformed part e)

-- ---- what is decoded of octets that were read in place

-- this manifest, unless allocation fails
abbrev pub IsDecodedAs : ManifestParts → Result ManifestParts DecodeError → Type 0
IsDecodedAs x (Ok y) = y ≡ x
IsDecodedAs x (Err e) = e ≡ OutOfMemory

-- no manifest
abbrev pub IsNotDecoded : Result ManifestParts DecodeError → Type 0
IsNotDecoded (Ok y) = ⊥
IsNotDecoded (Err e) = Unit {0}

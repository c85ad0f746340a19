-- The content of a manifest (RFC 9286 4.2).
use Rattle.std.specs.Prelude.{◌≡◌, ◌≢◌, ◌⊎◌, ◌<ℤ◌, ℕ, List, [], codes, Result, Ok, Err}
use Rattle.jiff.specs.Types.{DateTime}
use Rattle.jiff.specs.Words.{civil_nanos}
use Rattle.rpki_der.specs.declared.error.DecodeError.{DecodeError}
use Rattle.rpki_der.specs.declared.error.DecodeError.TheVariants.{OutOfMemory}
use Rattle.rpki_der.specs.Prelude.{sequence, Format, around, then, only, each, this_oid, SpellsFor, FirstFault}
use Rattle.rpki_time.specs.Serial.{serial_number}
use Rattle.rpki_time.specs.TimeValue.{generalized}
use Rattle.rpki_time.specs.Validity.{Period}
use Rattle.rpki.specs.Oids.{sha256}
use Rattle.rpki.specs.Prelude.{IsContentWith}
use Rattle.rpki_contents.specs.declared.manifest_fields.ManifestFields.{ManifestFields}
use Rattle.rpki_contents.specs.ListedFile.{ListedFile, kept_file, AreDistinct}

-- ---- the fields: SEQUENCE { manifestNumber, thisUpdate, nextUpdate, fileHashAlg, fileList }

-- what a manifest says
pub record ManifestParts : Type 0 where
  pub number : ℕ
  pub this_update : DateTime
  pub next_update : DateTime
  pub files : List ListedFile

abbrev pub parts_of : ℕ → DateTime → DateTime → List ListedFile → ManifestParts
parts_of number this next files = record {
  number = number;
  this_update = this;
  next_update = next;
  files = files;
}

-- from this update to the next
abbrev pub period_of : ManifestParts → Period
period_of x = record { not_before = x.this_update; not_after = x.next_update }

abbrev pub Fields : Type 0
Fields = ℕ × (DateTime × (DateTime × (Unit {0} × List ListedFile)))

abbrev pub fields_of : ManifestParts → Fields
fields_of x = (x.number, (x.this_update, (x.next_update, (tt, x.files))))

abbrev pub fields_in : ManifestFields → Fields
fields_in x = (x.manifest_number, (x.this_update, (x.next_update, (tt, x.file_list.items))))

-- the list of files, each of which F reads; then all fields; the version, which is 0, is left out (X.690 11.5)
abbrev pub listing : Format ListedFile → Format (List ListedFile)
listing F = around sequence (each F)

abbrev pub fields_with : Format ListedFile → Format Fields
fields_with F =
    then serial_number (then generalized (then generalized (then (this_oid sha256) (only (listing F)))))

abbrev pub listed_fields : Format ListedFile → Format Fields
listed_fields F = around sequence (fields_with F)

-- files that are kept
abbrev pub each_file : Format (List ListedFile)
each_file = each kept_file

abbrev pub file_list : Format (List ListedFile)
file_list = listing kept_file

abbrev pub fields : Format Fields
fields = fields_with kept_file

abbrev pub manifest_fields : Format Fields
manifest_fields = listed_fields kept_file

-- ---- a manifest

-- the next update is later than this one (RFC 9286 4.2.1)
abbrev pub AreInOrder : DateTime → DateTime → Type 0
AreInOrder this next = civil_nanos this <ℤ civil_nanos next

-- the fields are these; the times are in order, and no file is listed twice (RFC 9286 4.2.1)
pub record IsManifest (x : ManifestParts) (read : Fields) : Type 0 where
  pub fields : fields_of x ≡ read
  pub order : AreInOrder x.this_update x.next_update
  pub distinct : AreDistinct x.files

-- the times of fields, and the files
abbrev pub FieldsInOrder : Fields → Type 0
FieldsInOrder x = AreInOrder x.1.0 x.1.1.0

abbrev pub files_of : Fields → List ListedFile
files_of x = x.1.1.1.1

-- The times aren't in order; or they are, and a file is listed twice, or there is no memory to compare names: never
-- where there is no file.
abbrev pub IsNoManifest : Fields → DecodeError → Type 0
IsNoManifest x e =
    ((FieldsInOrder x → ⊥) × IsContentWith (codes "next update not after this update") e)
    ⊎ (FieldsInOrder x
    × (((AreDistinct (files_of x) → ⊥) × IsContentWith (codes "file listed twice") e)
    ⊎ ((files_of x ≢ []) × (e ≡ OutOfMemory))))

-- a check of both
abbrev pub ChecksFields : Fields → Result ManifestParts DecodeError → Type 0
ChecksFields x (Ok v) = IsManifest v x
ChecksFields x (Err e) = IsNoManifest x e

abbrev pub manifest : Format ManifestParts
manifest = record {
  spells = SpellsFor manifest_fields.spells IsManifest;
  fault = FirstFault manifest_fields.spells manifest_fields.fault (λ x rest. IsNoManifest x);
}

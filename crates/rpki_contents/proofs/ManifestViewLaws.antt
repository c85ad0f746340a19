-- Manifests that are read in place.
use Rattle.std.proofs.Common.{◌≡◌, ℕ, true, false, List, Result, Ok, Err, refl, sym, subst}
use Rattle.std.specs.Prelude.{IfOk, IfErr, codes}
use Rattle.rpki_der.specs.declared.error.DecodeError.{DecodeError}
use Rattle.rpki_der.specs.declared.error.DecodeError.TheVariants.{OutOfMemory}
use Rattle.rpki_der.specs.TagName.{integer, generalized_time, oid, sequence}
use Rattle.rpki_der.specs.Reading.{Accepts, Refuses, Refusal}
use Rattle.rpki_der.specs.Values.{SpellsContents}
use Rattle.rpki_der.specs.Leaves.{IsOnly}
use Rattle.rpki_der.specs.LeafFormats.{this_oid}
use Rattle.rpki_der.proofs.InsideLaws.{unless-memory}
use Rattle.rpki_der.proofs.LeavesLaws.{leaf-no-memory}
use Rattle.rpki_parse.specs.Parts.{malformed}
use Rattle.rpki_time.specs.Serial.{IsSerialContents, serial_number}
use Rattle.rpki_time.specs.TimeText.{ReadsAsGeneralized}
use Rattle.rpki_time.specs.TimeValue.{generalized}
use Rattle.rpki.specs.Oids.{sha256}
use Rattle.rpki.specs.Prelude.{IsContentWith}
use Rattle.rpki_contents.specs.declared.manifest_part.ManifestPart.TheVariants as P
use Rattle.rpki_contents.specs.declared.manifest_view.ManifestView.{ManifestView}
use Rattle.rpki_contents.specs.ListedFile.{ListedFile}
use Rattle.rpki_contents.specs.FilesInPlace.{FileOctets, AreFiles, AreNoFiles, HoldFiles}
use Rattle.rpki_contents.specs.Manifest.{AreInOrder}
use Rattle.rpki_contents.specs.ManifestView.{IsListOf, ReadsList, parts_in, AreFieldsAt, IsManifestError}
use Rattle.rpki_contents.specs.ManifestView.IsManifestError.{OutOfOrder}
use Rattle.rpki_contents.specs.ManifestView.WholePart.{InFrame}

-- ---- parts that aren't there: no memory is taken

no-part : {V : Type 0} (G : V → List ℕ → Type 0) (K : List ℕ → DecodeError → Type 0) (s r : List ℕ) (e : DecodeError)
    → (K s OutOfMemory → ⊥) → Refusal G K s r e → Refuses G s
no-part G K s r e never h = unless-memory e (λ z. never (subst (K s) z h.kind)) h.refuses

pub no-number : (s r : List ℕ) (e : DecodeError) → Refusal serial_number.spells serial_number.fault s r e
    → Refuses serial_number.spells s
no-number s r e =
    no-part serial_number.spells serial_number.fault s r e
    (λ m. leaf-no-memory integer false IsSerialContents s OutOfMemory m.0 refl)

pub no-time : (s r : List ℕ) (e : DecodeError) → Refusal generalized.spells generalized.fault s r e
    → Refuses generalized.spells s
no-time s r e =
    no-part generalized.spells generalized.fault s r e
    (λ m. leaf-no-memory generalized_time false (λ t text. ReadsAsGeneralized text t) s OutOfMemory m refl)

pub no-digest : (s r : List ℕ) (e : DecodeError) → Refusal (this_oid sha256).spells (this_oid sha256).fault s r e
    → Refuses (this_oid sha256).spells s
no-digest s r e =
    no-part (this_oid sha256).spells (this_oid sha256).fault s r e
    (λ m. leaf-no-memory oid false (IsOnly sha256) s OutOfMemory m refl)

-- ---- the list of files

list-read : (s c : List ℕ) (v : FileOctets) → SpellsContents sequence true c s → v.octets ≡ c
    → ((xs : List ListedFile) × HoldFiles v xs) → ReadsList s (Ok v)
list-read s c v h is (xs, held) = (
  xs,
  record {
    spelled = record { contents = c; value = h; spelled = subst (AreFiles xs) is held.files };
    octets = sym is;
    count = held.count;
  },
)

-- the reader of the files, whose result is handed on
pub list-handed : (s c : List ℕ) (x : Result FileOctets DecodeError) → SpellsContents sequence true c s
    → IfOk x (λ v. (v.octets ≡ c) × (xs : List ListedFile) × HoldFiles v xs) → IfErr x (λ e. AreNoFiles c e)
    → ReadsList s x
list-handed s c (Ok v) h ok err = list-read s c v h ok.0 (ok.1, ok.2)
list-handed s c (Err e) h ok err = InFrame c h (err, refl)

-- ---- the fields

module _ (s w x y z : List ℕ) (v : ManifestView) (number : Accepts serial_number.spells s v.manifest_number w)
    (this : Accepts generalized.spells w v.this_update x) (next : Accepts generalized.spells x v.next_update y)
    (digest : Accepts (this_oid sha256).spells y tt z) where
  pub fields-read : ((xs : List ListedFile) × IsListOf z v.files xs) → (xs : List ListedFile) × AreFieldsAt s v xs
  fields-read (xs, list) = (
    xs,
    record {
      spelled = record {
        first = number.spells.front;
        second = w;
        parts = number.spells.parts;
        one = number.spells.spelled;
        two = record {
          first = this.spells.front;
          second = x;
          parts = this.spells.parts;
          one = this.spells.spelled;
          two = record {
            first = next.spells.front;
            second = y;
            parts = next.spells.parts;
            one = next.spells.spelled;
            two = record {
              first = digest.spells.front;
              second = z;
              parts = digest.spells.parts;
              one = digest.spells.spelled;
              two = list.spelled;
            };
          };
        };
      };
      octets = list.octets;
      count = list.count;
    },
  )

-- ---- a manifest

pub out-of-order : (s c : List ℕ) (v : ManifestView) (e : DecodeError) → SpellsContents sequence true c s
    → ((xs : List ListedFile) × AreFieldsAt c v xs) → (AreInOrder v.this_update v.next_update → ⊥)
    → IsContentWith (codes "next update not after this update") e → IsManifestError s (malformed P.Order e)
out-of-order s c v e h (xs, fields) not is =
    OutOfOrder (parts_in v xs) (record { contents = c; value = h; spelled = fields.spelled }) not refl is

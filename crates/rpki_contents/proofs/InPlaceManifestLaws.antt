-- What is read of a manifest in place, and what is decoded.
use Rattle.std.proofs.Common.{◌≡◌, ℕ, true, List, Result, Ok, Err, refl, sym, subst}
use Rattle.rpki_der.specs.declared.error.DecodeError.{DecodeError}
use Rattle.rpki_der.specs.Prelude.{Format, SpellsContents, SpellsNothing, sequence, this_oid}
use Rattle.rpki_der.specs.Prelude.{IsWholeFault, Decodes, Then}
use Rattle.rpki_der.proofs.ReadingLaws.{only-memory}
use Rattle.rpki_der.proofs.FrontLaws.{contents-alone}
use Rattle.rpki_der.proofs.PartsLaws.{first-of}
use Rattle.rpki_time.specs.Serial.{serial_number}
use Rattle.rpki_time.specs.TimeValue.{generalized}
use Rattle.rpki.specs.Oids.{sha256}
use Rattle.rpki_parse.specs.declared.malformed.Malformed.{Malformed}
use Rattle.rpki_parse.specs.Parts.{malformed}
use Rattle.rpki_contents.specs.declared.manifest_part.ManifestPart.{ManifestPart}
use Rattle.rpki_contents.specs.FilesInPlace.{AreFiles}
use Rattle.rpki_contents.specs.declared.manifest_view.ManifestView.{ManifestView}
use Rattle.rpki_contents.specs.ListedFile.{ListedFile, AreDistinct}
use Rattle.rpki_contents.specs.Manifest.{ManifestParts, Fields, fields_of, FieldsInOrder, files_of, manifest}
use Rattle.rpki_contents.specs.ManifestView.{parts_in, IsListWrong, IsManifestAt, IsManifestError, IsManifestWrong}
use Rattle.rpki_contents.specs.ManifestView.{AreFieldsWrong, FirstPart}
use Rattle.rpki_contents.specs.ManifestView.{view_list, view_fields, view_manifest}
use Rattle.rpki_contents.specs.ManifestView.FirstPart.{AtPart, Later}
use Rattle.rpki_contents.specs.ManifestView.IsManifestError.{InParts, OutOfOrder}
use Rattle.rpki_contents.specs.ManifestView.WholePart.{InFrame, NoFrame}
use Rattle.rpki_contents.specs.ManifestView.{IsDecodedAs, IsNotDecoded}
use Rattle.rpki_contents.proofs.OneReadingLaws.{IsOneFront, number-one, time-one, digest-one, manifest-one}

-- ---- what is read in place has these fields

pub read-fields : (s : List ℕ) (v : ManifestView) (xs : List ListedFile) → IsManifestAt s v xs
    → view_manifest.spells (fields_of (parts_in v xs)) s
read-fields s v xs h = record { contents = h.contents; value = h.value; spelled = h.fields.spelled }

read-manifest : (s : List ℕ) (v : ManifestView) (xs : List ListedFile) → IsManifestAt s v xs → AreDistinct xs
    → manifest.spells (parts_in v xs) s
read-manifest s v xs h apart = record {
  value = fields_of (parts_in v xs);
  spelled = read-fields s v xs h;
  stands = record { fields = refl; order = h.order; distinct = apart };
}

-- and a manifest has no others
one-fields : (s : List ℕ) (x : ManifestParts) (f : Fields) → manifest.spells x s → view_manifest.spells f s
    → fields_of x ≡ f
one-fields s x f h k =
    subst (λ (g : Fields). g ≡ f) (sym h.stands.fields) (manifest-one s h.value f h.spelled k)

read-doubled : (s : List ℕ) (v : ManifestView) (xs : List ListedFile) → IsManifestAt s v xs → (AreDistinct xs → ⊥)
    → SpellsNothing manifest.spells s
read-doubled s v xs h twice x k =
    let e = one-fields s x (fields_of (parts_in v xs)) k (read-fields s v xs h) in
    twice (subst (λ (f : Fields). AreDistinct (files_of f)) e k.stands.distinct)

-- ---- a part is wrong

-- the first part is there, and what follows isn't
then-wrong : {A B : Type 0} (F : Format A) (H : B → List ℕ → Type 0) (part : ManifestPart)
    (L : List ℕ → Malformed ManifestPart → Type 0) (q : Malformed ManifestPart) → IsOneFront F.spells
    → ((r : List ℕ) → L r q → SpellsNothing H r) → (s : List ℕ) → FirstPart F part L s q
    → SpellsNothing (Then F.spells H) s
then-wrong F H part L q one none s (AtPart refuses fault e) x h = refuses x.0 h.second (first-of h)
then-wrong F H part L q one none s (Later v r spells wrong) x h =
    let e = one s x.0 v h.second r (first-of h) spells in
    none r wrong x.1 (subst (H x.1) e.1 h.two)

-- a SEQUENCE has one contents
one-inside : (c d s : List ℕ) → SpellsContents sequence true c s → SpellsContents sequence true d s → d ≡ c
one-inside c d s h k =
    subst (λ (b : List ℕ). b ≡ c) (contents-alone sequence true d s k) (contents-alone sequence true c s h)

list-wrong : (q : Malformed ManifestPart) (s : List ℕ) → IsListWrong s q → SpellsNothing view_list.spells s
list-wrong q s (NoFrame none fault e) xs k = none k.contents k.value
list-wrong q s (InFrame c h wrong) xs k =
    wrong.0.0 xs (subst (AreFiles xs) (one-inside c k.contents s h k.value) k.spelled)

fields-wrong : (q : Malformed ManifestPart) (s : List ℕ) → AreFieldsWrong s q → SpellsNothing view_fields.spells s
fields-wrong q =
    then-wrong serial_number _ _ _ q number-one
    (then-wrong generalized _ _ _ q time-one
    (then-wrong generalized _ _ _ q time-one
    (then-wrong (this_oid sha256) view_list.spells _ _ q digest-one (list-wrong q))))

read-wrong : (s : List ℕ) (q : Malformed ManifestPart) → IsManifestError s q → SpellsNothing manifest.spells s
read-wrong s q (InParts (NoFrame none fault e)) x h = none h.spelled.contents h.spelled.value
read-wrong s q (InParts (InFrame c value wrong)) x h =
    fields-wrong q c wrong h.value
    (subst (view_fields.spells h.value) (one-inside c h.spelled.contents s value h.spelled.value) h.spelled.spelled)
read-wrong s q (OutOfOrder y spelled not e is) x h =
    not (subst FieldsInOrder (one-fields s x (fields_of y) h spelled) h.stands.order)

-- ---- what is decoded

decoded : (s : List ℕ) (x : ManifestParts) (found : Result ManifestParts DecodeError)
    → Decodes (λ v. v) manifest.spells (IsWholeFault manifest.spells manifest.fault) s found → manifest.spells x s
    → IsDecodedAs x found
decoded s x (Ok y) h k = sym (h.1 x k)
decoded s x (Err e) h k = only-memory e h.0 (λ none. none x k)

not-decoded : (s : List ℕ) (found : Result ManifestParts DecodeError)
    → Decodes (λ v. v) manifest.spells (IsWholeFault manifest.spells manifest.fault) s found
    → SpellsNothing manifest.spells s → IsNotDecoded found
not-decoded s (Ok y) h none = none y h.0
not-decoded s (Err e) h none = tt

module _ (s : List ℕ) (found : Result ManifestParts DecodeError)
    (h : Decodes (λ v. v) manifest.spells (IsWholeFault manifest.spells manifest.fault) s found) where
  pub decoded-in-place : (v : ManifestView) (xs : List ListedFile) → IsManifestAt s v xs → AreDistinct xs
      → IsDecodedAs (parts_in v xs) found
  decoded-in-place v xs at apart = decoded s (parts_in v xs) found h (read-manifest s v xs at apart)

  pub doubled-in-place : (v : ManifestView) (xs : List ListedFile) → IsManifestAt s v xs → (AreDistinct xs → ⊥)
      → IsNotDecoded found
  doubled-in-place v xs at twice = not-decoded s found h (read-doubled s v xs at twice)

  pub wrong-in-place : (q : ManifestPart) → IsManifestWrong s q → IsNotDecoded found
  wrong-in-place q wrong = not-decoded s found h (read-wrong s (malformed q wrong.0) wrong.1)

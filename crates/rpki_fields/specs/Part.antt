-- Which part of octets is wrong that are no object of their kind: the leftmost, as readers in place tell it; none where
-- these read all parts, so that what is wrong is seen of several together, or of a part that they don't look into.
use Rattle.std.specs.Prelude.{◌≡◌, ◌⊎◌, ℕ, false, List, Option, Some, None, Ok, Err}
use Rattle.rpki_cert.specs.declared.read.view.CertView.{CertView}
use Rattle.rpki_cert.specs.Cert.{CertParts}
use Rattle.rpki_cert.specs.View.{IsCertAt, IsCertWrong}
use Rattle.rpki_contents.specs.declared.aspa_view.AspaPart.{AspaPart}
use Rattle.rpki_contents.specs.declared.manifest_view.ManifestView.{ManifestView}
use Rattle.rpki_contents.specs.declared.roa_view.RoaPart.{RoaPart}
use Rattle.rpki_contents.specs.AspaView.{FoundAspa, attestation}
use Rattle.rpki_contents.specs.ListedFile.{ListedFile}
use Rattle.rpki_contents.specs.ManifestView.{IsManifestAt, IsManifestWrong}
use Rattle.rpki_contents.specs.RoaView.{FoundRoa, route_origin}
use Rattle.rpki_crl.specs.declared.crl_view.CrlView.{CrlView}
use Rattle.rpki_objects.specs.declared.object_part.ObjectPart.{ObjectPart}
use Rattle.rpki_objects.specs.declared.signed_object_view.SignedObjectView.{SignedObjectView}
use Rattle.rpki_crl.specs.Crl.{CrlParts}
use Rattle.rpki_crl.specs.CrlView.{IsCrlAt, IsCrlWrong}
use Rattle.rpki_objects.specs.SignedObject.{ObjectParts}
use Rattle.rpki_objects.specs.SignedObjectView.{IsObjectAt, IsObjectWrong}
use Rattle.rpki_records.specs.declared.card.CardPart.{CardPart}
use Rattle.rpki_records.specs.declared.checklist.ChecklistPart.{ChecklistPart}
use Rattle.rpki_records.specs.declared.checklist.ChecklistPart.TheVariants as C
use Rattle.rpki_records.specs.declared.resources.ResourceBlock.{ResourceBlock}
use Rattle.rpki_records.specs.declared.tak.TakPart.{TakPart}
use Rattle.rpki_records.specs.AnchorKeys.{FoundTak, tak}
use Rattle.rpki_records.specs.Card.{FoundCard, card_in}
use Rattle.rpki_records.specs.Checklist.{FoundChecklist, checklist}
use Rattle.rpki_records.specs.ChecklistResources.{AreNoResources, AreResources}
use Rattle.rpki_fields.specs.declared.object_type.ObjectType.{ObjectType}
use Rattle.rpki_fields.specs.declared.object_type.ObjectType.TheVariants as K
use Rattle.rpki_fields.specs.declared.part.Part.{Part}
use Rattle.rpki_fields.specs.declared.part.Part.TheVariants as P

-- a reader in place of all of the octets: it reads them, or W says which part is wrong
abbrev pub IsPart : {Q : Type 0} → (List ℕ → Type 0) → (List ℕ → Q → Type 0) → (Q → Part) → List ℕ → Option Part
    → Type 0
IsPart {Q} Reads W named octets o =
    ((q : Q) × W octets q × (o ≡ Some (named q))) ⊎ (Reads octets × (o ≡ None))

abbrev pub ReadsCert : List ℕ → Type 0
ReadsCert octets = (v : CertView) × (x : CertParts) × IsCertAt octets v x

abbrev pub ReadsList : List ℕ → Type 0
ReadsList octets = (v : CrlView) × (x : CrlParts) × IsCrlAt octets v x

abbrev pub ReadsManifest : List ℕ → Type 0
ReadsManifest octets = (v : ManifestView) × (xs : List ListedFile) × IsManifestAt octets v xs

-- the contents of signed objects
abbrev pub IsFilesPart : List ℕ → Option Part → Type 0
IsFilesPart = IsPart ReadsManifest IsManifestWrong P.Manifest

abbrev pub IsOriginsPart : List ℕ → Option Part → Type 0
IsOriginsPart octets o =
    ((q : RoaPart) × (e : ℕ) × (route_origin false octets ≡ Err (q, e)) × (o ≡ Some (P.Origins q)))
    ⊎ ((x : FoundRoa) × (route_origin false octets ≡ Ok x) × (o ≡ None))

abbrev pub IsProvidersPart : List ℕ → Option Part → Type 0
IsProvidersPart octets o =
    ((q : AspaPart) × (e : ℕ) × (attestation octets ≡ Err (q, e)) × (o ≡ Some (P.Providers q)))
    ⊎ ((x : FoundAspa) × (attestation octets ≡ Ok x) × (o ≡ None))

-- of a checklist that is read: its resources, where one kind of them isn't there
abbrev pub IsResourcesPart : FoundChecklist → Option Part → Type 0
IsResourcesPart x o =
    (AreNoResources x × (o ≡ Some (P.Checklist C.Resources)))
    ⊎ ((b : ResourceBlock) × AreResources x b × (o ≡ None))

abbrev pub IsChecklistPart : List ℕ → Option Part → Type 0
IsChecklistPart octets o =
    ((q : ChecklistPart) × (e : ℕ) × (checklist octets ≡ Err (q, e)) × (o ≡ Some (P.Checklist q)))
    ⊎ ((x : FoundChecklist) × (checklist octets ≡ Ok x) × IsResourcesPart x o)

abbrev pub IsAnchorKeysPart : List ℕ → Option Part → Type 0
IsAnchorKeysPart octets o =
    ((q : TakPart) × (e : ℕ) × (tak octets ≡ Err (q, e)) × (o ≡ Some (P.AnchorKeys q)))
    ⊎ ((x : FoundTak) × (tak octets ≡ Ok x) × (o ≡ None))

abbrev pub IsCardPart : List ℕ → Option Part → Type 0
IsCardPart octets o =
    ((q : CardPart) × (e : ℕ) × (card_in octets ≡ Err (q, e)) × (o ≡ Some (P.Card q)))
    ⊎ ((x : FoundCard) × (card_in octets ≡ Ok x) × (o ≡ None))

-- of any other content nothing is known
abbrev pub IsOtherPart : List ℕ → Option Part → Type 0
IsOtherPart octets o = o ≡ None

-- the object is wrong; or it is read, and C says it of its content
abbrev pub IsObjectPart : (List ℕ → Option Part → Type 0) → List ℕ → Option Part → Type 0
IsObjectPart C octets o =
    ((q : ObjectPart) × IsObjectWrong false octets q × (o ≡ Some (P.Object q)))
    ⊎ ((v : SignedObjectView) × (x : ObjectParts) × IsObjectAt false octets v x × C v.content.content.octets.now o)

abbrev pub IsMalformedPart : ObjectType → List ℕ → Option Part → Type 0
IsMalformedPart K.Certificate = IsPart ReadsCert IsCertWrong P.Cert
IsMalformedPart K.Crl = IsPart ReadsList IsCrlWrong P.List
IsMalformedPart K.Manifest = IsObjectPart IsFilesPart
IsMalformedPart K.Roa = IsObjectPart IsOriginsPart
IsMalformedPart K.Aspa = IsObjectPart IsProvidersPart
IsMalformedPart K.Checklist = IsObjectPart IsChecklistPart
IsMalformedPart K.TrustAnchorKey = IsObjectPart IsAnchorKeysPart
IsMalformedPart K.Ghostbusters = IsObjectPart IsCardPart
IsMalformedPart K.SignedObject = IsObjectPart IsOtherPart

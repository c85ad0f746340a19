-- Which lemma file answers which question.
--
-- Whether names differ: NamesLaws. The files of a manifest in place,
-- and room for their names: FilesLaws, RoomLaws. A manifest over its fields: ManifestLaws. A manifest read in place:
-- ManifestViewLaws. Files that are written: WritingLaws; the manifest around them: ManifestWritingLaws.
-- What is decoded of it: InPlaceManifestLaws, by OneReadingLaws.
-- The prefixes of an attestation, and its families: RoaAddressLaws, RoaLaws.
-- What it authorizes, and whether that is within resources: OriginLaws, WithinLaws.
-- Route origin attestations that are written: RoaWritingLaws.
-- The providers of a customer: AspaLaws. Attestations of providers that are written: AspaWritingLaws.
-- Both in place: AspaViewLaws, PrefixLaws; what is found is spelled: FoundLaws, AspaFoundLaws, RoaFoundLaws.
-- Parts of a manifest in place: InPlaceLaws.
-- Numbers and files whose headers are two octets: ShortLaws, ShortFileLaws.

pub mod AspaFoundLaws
pub mod AspaLaws
pub mod AspaViewLaws
pub mod AspaWritingLaws
pub mod FilesLaws
pub mod FoundLaws
pub mod InPlaceLaws
pub mod InPlaceManifestLaws
pub mod ManifestLaws
pub mod ManifestViewLaws
pub mod ManifestWritingLaws
pub mod NamesLaws
pub mod OneReadingLaws
pub mod OriginLaws
pub mod PrefixLaws
pub mod RoaAddressLaws
pub mod RoaFoundLaws
pub mod RoaLaws
pub mod RoaWritingLaws
pub mod RoomLaws
pub mod ShortFileLaws
pub mod ShortLaws
pub mod WithinLaws
pub mod WritingLaws

-- Which lemma file answers which question.
--
-- Names, identifiers, what extensions say, errors that are no allocation failure: NameLaws, IdentifierLaws, SaysLaws,
-- MemoryLaws. Certificates of any algorithms: OtherCertLaws, OtherPartsLaws, OtherSizeLaws. Lists whose items are in
-- a relation: EachIsLaws; blocks of resources: ResourceItemLaws. That a certificate has one list of fields, an object
-- one sheet, and octets one object: OneTextLaws, OtherTextLaws, OneSheetLaws, OneObjectLaws; what a reader of
-- certificates says: OtherObjectLaws. Checklists, trust anchor keys and Ghostbusters records: RecordLaws. Trust
-- anchor locators: LocatorLaws.

pub mod NameLaws
pub mod IdentifierLaws
pub mod SaysLaws
pub mod MemoryLaws
pub mod EachIsLaws
pub mod ResourceItemLaws
pub mod OtherCertLaws
pub mod OtherPartsLaws
pub mod OtherSizeLaws
pub mod OneTextLaws
pub mod OtherTextLaws
pub mod OtherObjectLaws
pub mod RecordLaws
pub mod OneSheetLaws
pub mod OneObjectLaws
pub mod LocatorLaws

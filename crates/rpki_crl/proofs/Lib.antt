-- Which lemma file answers which question.
--
-- A list of entries that may be left out: CrlLaws. The extensions: ExtensionsLaws, TwoLaws. A revocation list in signed
--   data: ListInLaws.
-- Read in place: entries, what is signed, that it is one value, lists: EntriesLaws, ListViewLaws, ListValueLaws,
--   CrlViewLaws. Entries whose headers are two octets: ShortEntryLaws.
-- A revocation list that is written, and that it is read: ListWritingLaws, ListReadLaws.

pub mod CrlLaws
pub mod CrlViewLaws
pub mod EntriesLaws
pub mod ExtensionsLaws
pub mod ListInLaws
pub mod ListReadLaws
pub mod ListValueLaws
pub mod ListViewLaws
pub mod ListWritingLaws
pub mod ShortEntryLaws
pub mod TwoLaws

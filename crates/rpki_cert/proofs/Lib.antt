-- Which lemma file answers which question.
--
-- Values, one at least: SomeLaws. What an extension says: KnownLaws, GeneralNameLaws, AccessLaws.
-- Keys: KeyLaws. Checks of profiles: ProfileLaws, BelowLaws. Values of names: NameValueLaws. Their rules: RuleLaws.
-- Read in place: access information, lists of extensions, each identifier once, their table, fields, certificates:
--   InformationLaws, ListedLaws, UniqueLaws, TableLaws, FieldsLaws, ViewLaws.
--   That what is signed is one value: TbsValueLaws. That what is spelled has one value: OneLaws. That what is wrong is
--   no certificate: WrongLaws.
-- Kept: where parts are, and that they are kept as they were read: KeptLaws. A certificate that was read and kept, or
--   that isn't there: CertLaws.
-- Values, in sequence, of which something is kept: GatherLaws.

pub mod SomeLaws
pub mod KnownLaws
pub mod GeneralNameLaws
pub mod AccessLaws
pub mod KeyLaws
pub mod ProfileLaws
pub mod BelowLaws
pub mod NameValueLaws
pub mod RuleLaws
pub mod InformationLaws
pub mod ListedLaws
pub mod UniqueLaws
pub mod TableLaws
pub mod FieldsLaws
pub mod TbsValueLaws
pub mod ViewLaws
pub mod OneLaws
pub mod WrongLaws
pub mod KeptLaws
pub mod CertLaws
pub mod GatherLaws

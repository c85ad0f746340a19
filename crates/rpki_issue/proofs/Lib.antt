-- Which lemma file answers which question.
--
-- Contents of extensions that are written, and that they have one value: ContentsLaws, UniqueLaws. An extension, and a
-- list of them: RowsLaws, PartsLaws, ListedLaws. What is signed of a certificate: TbsLaws, WrittenTbsLaws. That it
-- has its profile: ResourcesLaws, ProfileLaws. What is refused: UriLaws, PlanLaws, RefusedLaws; that a serial number is
-- listed twice: DoubledLaws. What is signed is read
-- as what was to be signed: CertLaws, ListLaws, ObjectLaws, RequestLaws. A locator is read back: LocatorLaws.

pub mod ContentsLaws
pub mod UniqueLaws
pub mod RowsLaws
pub mod PartsLaws
pub mod ListedLaws
pub mod UriLaws
pub mod TbsLaws
pub mod WrittenTbsLaws
pub mod CertLaws
pub mod ListLaws
pub mod DoubledLaws
pub mod ObjectLaws
pub mod RequestLaws
pub mod LocatorLaws
pub mod PlanLaws
pub mod ResourcesLaws
pub mod ProfileLaws
pub mod RefusedLaws

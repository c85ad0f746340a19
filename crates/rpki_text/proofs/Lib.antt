-- Which lemma file answers which question.
--
-- A text, its parts and its places: UriLaws, CutLaws, PartLaws, PlaceLaws, OwnLaws, TextLaws, CaseLaws.
-- That no text has an allocation failure: MemoryLaws.
-- Paths and segments: SegmentLaws, OrdinaryLaws.
-- `join`, `parent`, `relative_to`: JoinLaws, JoinedLaws, ParentLaws, ParentEndLaws, BelowLaws.
-- That `join` is undone: BackLaws, RelativeLaws, MeaningLaws.
-- Equality and laws; https: EqualLaws, EqBytesLaws, ModuleLaws, LawLaws, HttpsPartLaws, HttpsLaws, HttpsParentEndLaws.
-- Digits: HexLaws.

pub mod SegmentLaws
pub mod OrdinaryLaws
pub mod UriLaws
pub mod CutLaws
pub mod RelativeLaws
pub mod JoinLaws
pub mod BelowLaws
pub mod LawLaws
pub mod BackLaws
pub mod ParentLaws
pub mod ParentEndLaws
pub mod TextLaws
pub mod PartLaws
pub mod EqualLaws
pub mod MeaningLaws
pub mod ModuleLaws
pub mod EqBytesLaws
pub mod HttpsPartLaws
pub mod HexLaws
pub mod HttpsLaws
pub mod HttpsParentEndLaws
pub mod CaseLaws
pub mod PlaceLaws
pub mod OwnLaws
pub mod JoinedLaws
pub mod MemoryLaws

-- Which lemma file answers which question.
--
-- Signed objects that are read in place, and what is wrong with others: ObjectViewLaws, ObjectWrongLaws, of a content
--   ObjectFaultLaws. Signed objects of one type: TypedObjectLaws. Signed objects that are written: ObjectWritingLaws,
--   ObjectReadLaws.

pub mod ObjectFaultLaws
pub mod ObjectReadLaws
pub mod ObjectViewLaws
pub mod ObjectWritingLaws
pub mod ObjectWrongLaws
pub mod TypedObjectLaws

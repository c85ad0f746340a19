-- Which lemma file answers which question.
--
-- Answers, errors, words, rows: AnswerLaws, OneAnswerLaws, FaultLaws, CutLaws, WordLaws, DroppedLaws, RowLaws.
-- Extensions read on; names inspected; what is seen of a run: ReadingLaws, InspectionLaws, SeenLaws.

pub mod WordLaws
pub mod DroppedLaws
pub mod FaultLaws
pub mod CutLaws
pub mod AnswerLaws
pub mod RowLaws
pub mod OneAnswerLaws
pub mod ReadingLaws
pub mod InspectionLaws
pub mod SeenLaws

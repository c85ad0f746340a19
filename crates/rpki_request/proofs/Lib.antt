-- Which lemma file answers which question.
--
-- What stands for what was found of an extension: StandsLaws. The extensions that are asked for: AskedLaws. The
--   subject: SubjectLaws. What is signed, in signed data: InfoInLaws.

pub mod AskedLaws
pub mod InfoInLaws
pub mod StandsLaws
pub mod SubjectLaws

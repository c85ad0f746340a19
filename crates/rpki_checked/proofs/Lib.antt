-- Which lemma file answers which question.
--
-- What was made is read again: ReadLaws. What is asked of an object, alone and by an authority: ObjectLaws.
-- Authorities and trust anchors: AuthorityLaws.

pub mod ReadLaws
pub mod ObjectLaws
pub mod AuthorityLaws

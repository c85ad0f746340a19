-- Which lemma file answers which question.
--
-- Whether texts differ, by sorting them: TextsLaws. Values of some octets, one more each time: FirstsLaws. Octets that
-- spell nothing: WholeLaws. Folds and words of a vCard: CardLaws.

pub mod CardLaws
pub mod FirstsLaws
pub mod TextsLaws
pub mod WholeLaws

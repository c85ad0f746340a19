-- Which lemma file answers which question.
--
-- Texts by their chunks and as UTF-8; texts without white space: Base64Laws, WhiteSpaceLaws.

pub mod Base64Laws
pub mod WhiteSpaceLaws

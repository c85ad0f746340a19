-- Which lemma file answers which question.
--
-- A URI beside another: BesideLaws.

pub mod BesideLaws

-- Which lemma file answers which question.
--
-- That the functions find what the relations of rpki_der say: a value, a tag in front, the end: ValueLaws. A leaf, by a
--   decision of its contents: LeafLaws; each decision: DecisionLaws; leaves whose decision has an argument: ReaderLaws.
-- A relation of rpki_der from its function: BackLaws.
-- A loop over values: FoldLaws.

pub mod ValueLaws
pub mod LeafLaws
pub mod DecisionLaws
pub mod ReaderLaws
pub mod BackLaws
pub mod FoldLaws

-- Which lemma file answers which question.
--
-- The attribute of a type, and what attributes say: SoughtLaws. The signed attributes of a signer: AttributesLaws; read
--   in place: AttributesViewLaws, in sequence TogetherLaws; why there are none: AttributesFaultLaws.
-- Signed attributes that are written: their order, that they are values, and that they are read: AttributesOrderLaws,
--   AttributesWritingLaws, AttributesReadLaws.

pub mod AttributesFaultLaws
pub mod AttributesLaws
pub mod AttributesOrderLaws
pub mod AttributesReadLaws
pub mod AttributesViewLaws
pub mod AttributesWritingLaws
pub mod SoughtLaws
pub mod TogetherLaws

-- Which lemma file answers which question.
--
-- What is claimed of resources, and what is settled: ResourceSetLaws. What is verified, and paths: VerifiedLaws.
-- Whether an authority has issued a list: IssuedLaws. Whether a signed object is valid: ObjectVerifiedLaws. Rules, in
-- sequence: RulesLaws.

pub mod ResourceSetLaws
pub mod VerifiedLaws
pub mod IssuedLaws
pub mod ObjectVerifiedLaws
pub mod RulesLaws

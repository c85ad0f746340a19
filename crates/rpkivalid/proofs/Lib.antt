-- Which lemma file answers which question.
--
-- The rest of arguments, what words ask for: ArgumentLaws, RequestLaws,
-- ComplaintLaws. The moment: MomentLaws. Paths of objects: PathLaws. Locators in
-- files: LocatorLaws. What is found under locators: FoundLaws. What is said under them:
-- ToldLaws, RefusedLaws, ExplainedLaws, ComparedLaws. Why nothing is written:
-- DenyingLaws. A run: RunLaws, ProgramLaws.

mod ArgumentLaws
mod RequestLaws
mod ComplaintLaws
mod MomentLaws
mod PathLaws
mod LocatorLaws
mod FoundLaws
mod ToldLaws
mod RefusedLaws
mod ExplainedLaws
mod ComparedLaws
mod DenyingLaws
mod RunLaws
mod ProgramLaws

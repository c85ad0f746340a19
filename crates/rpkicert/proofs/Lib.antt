-- Which lemma file answers which question.
--
-- Texts around certificates, what objects are checked against, which profile is chosen, which rule is broken first,
-- which are, findings: PemLaws, RequirementsLaws, ChosenLaws, ViolationLaws, BrokenLaws, OutcomeLaws. What words ask
-- for, what is wrong with them, what is seen of a file and of a run, and what it is checked against: RequestLaws,
-- ComplaintLaws, SeenLaws, RunLaws, SettledLaws. The files under those that are named, the
-- program's arguments: UnderLaws, ProgramLaws.
-- That octets have one text, and inputs one answer: OneAnswerLaws.

pub mod PemLaws
pub mod RequirementsLaws
pub mod ChosenLaws
pub mod ViolationLaws
pub mod BrokenLaws
pub mod OutcomeLaws
pub mod RunLaws
pub mod SeenLaws
pub mod ComplaintLaws
pub mod SettledLaws
pub mod RequestLaws
pub mod OneAnswerLaws
pub mod UnderLaws
pub mod ProgramLaws

-- Which lemma file answers which question.
--
-- The contents of the extensions of resources have one reading; a certificate has one set of resources under its
--   issuer's: OneResourceLaws, OneHolderLaws.
-- What a step finds, and why it stops; steps over the layer below: FindingLaws, StepLaws.
-- The moment as the period of an authority's path; what an authority has issued is one: MomentLaws, IssuedLaws.
-- The octets of files, in sequence; what is where an authority publishes: FilesLaws, PlaceLaws,
--   PublicationLaws.
-- The first trust anchor of a locator: AnchorLaws.
-- What counts is reached, and is an authority: ReachedLaws.
-- What is alike publishes and issues the same: AlikeLaws.
-- Lists, and marks in sets: MetLaws, MarkLaws, TakingLaws. Whether an authority is named: NamedLaws; a list:
--   ListNameLaws.
-- What waits in a map, and what is below an authority: WaitingLaws, BelowLaws.
-- What was looked at and what waits, at any moment and in the end; one turn: TraceLaws, TurnLaws.
-- What octets say under a list, what files say, what the point of an authority says is added: HereLaws (names of files:
--   EndingLaws), AddingLaws, VisitLaws.
-- Notes of pairs, in sequence: NotingLaws. What is rejected of files and of a point: RejectedLaws. How long payloads
--   hold: HeldLaws.
-- The walk, and that what it tells is exactly what is valid: WalkLaws.
-- Payloads are signed down from the key of the locator; what is elsewhere has no part in them: SignedDownLaws,
--   IsolationLaws, over names of files: FileNameLaws.

pub mod OneResourceLaws
pub mod OneHolderLaws
pub mod FindingLaws
pub mod MomentLaws
pub mod IssuedLaws
pub mod StepLaws
pub mod FilesLaws
pub mod PlaceLaws
pub mod PublicationLaws
pub mod AnchorLaws
pub mod ReachedLaws
pub mod AlikeLaws
pub mod MetLaws
pub mod MarkLaws
pub mod NamedLaws
pub mod ListNameLaws
pub mod WaitingLaws
pub mod BelowLaws
pub mod TraceLaws
pub mod TurnLaws
pub mod TakingLaws
pub mod NotingLaws
pub mod AddingLaws
pub mod EndingLaws
pub mod HereLaws
pub mod VisitLaws
pub mod RejectedLaws
pub mod HeldLaws
pub mod WalkLaws
pub mod SignedDownLaws
pub mod FileNameLaws
pub mod IsolationLaws

-- Which lemma file answers which question.
--
-- Values with everything nested in them, and by their headers: NestedLaws; with a header of two octets: ShortLaws.
--   A name: NameViewLaws. Readers that take no memory, one value in all of the octets, sections: FrameLaws. What a `?`
--   hands on: TriedLaws.
-- Signed data: without unused bits WholeLaws, its parts SignedPartsLaws. A value that stands for another:
--   StandingForLaws. A value of which something has to hold: SuchLaws. Readers in place of a part, and of what is in
--   it: InPlaceLaws. That what is spelled is values: ValuesLaws. What is written: WrittenLaws.

pub mod FrameLaws
pub mod InPlaceLaws
pub mod NameViewLaws
pub mod NestedLaws
pub mod ShortLaws
pub mod SignedPartsLaws
pub mod StandingForLaws
pub mod SuchLaws
pub mod TriedLaws
pub mod ValuesLaws
pub mod WholeLaws
pub mod WrittenLaws

-- Which lemma file answers which question.
--
-- Crates above rest on FormatLaws, FoldLaws, ReadingLaws, LeavesLaws, ComposedLaws, InsideLaws, TriedLaws,
-- FirstFaultLaws, FaultKindLaws, PartsLaws, EachLaws, CaptureLaws, KeepLaws, EncodeLaws, WritingLaws and IntegerLaws:
-- their names and statements stay.
--
-- How readings are put together, whatever the grammar: ReadingLaws, StepLaws.
-- Memory or not, where no kind of an error is wanted: `memory-or-not`, `unless-memory`, `only-memory` of ReadingLaws.
-- A leaf over its contents; a value over the reader of its contents: LeavesLaws, ComposedLaws, InsideLaws.
-- What a reader returns where a `?` ends it: TriedLaws.
-- Readers by formats: FormatLaws; of a choice, and of values with a condition: ChoiceLaws. That a format has one value
--   and one error: OneFormatLaws.
-- Parts in order, the first of which may be left out; a list of values; values that lead from one state to the next:
--   PartsLaws, EachLaws, FoldLaws.
-- Octets that a reader reads, kept; lists of values that are cut short: CaptureLaws, ListFaultLaws.
-- The error of the leftmost part that isn't there: FirstFaultLaws.
-- Values of a wanted tag; values by their headers: WantedLaws, ValuesLaws.
-- The members of a value by number; the value at the front: MemberLaws, FrontLaws.
-- Readers of a header's parts: PartReadingLaws.
-- Headers: tag, tag number, length, all together: IdentifierLaws, TagNumberLaws, LengthLaws, HeaderLaws,
--   HeaderReadingLaws.
-- An error excludes the others: HeaderFaultLaws, FaultKindLaws, NestedFaultLaws, SomeFaultLaws.
-- A walk: in the middle, at its end: WalkingLaws, WalkLaws, MembersLaws; without memory: NestedLaws.
-- The index: IndexingLaws, IndexReadingLaws, IndexLaws, IndexOrderLaws.
-- A cursor; what can be kept of its octets; what octets end with: CursorLaws, KeepLaws, EndLaws.
-- Contents: numbers, identifiers, strings: IntegerLaws, UnsignedLaws, OidLaws, TextLaws.
-- What is hashed of octets and numbers: HashLaws.
-- The octets of headers, their bits and how many they are: OctetBitLaws, HeaderSizeLaws.
-- Digits of numbers, and that they are the shortest: DigitLaws, ShortestLaws.
-- What is written, and that it is read back: EncodeLaws, HeaderWritingLaws, WritingLaws, ListedLaws, LeafWritingLaws,
--   LeafValueLaws.

pub mod StepLaws
pub mod DigitLaws
pub mod OctetBitLaws
pub mod TagNumberLaws
pub mod LengthLaws
pub mod IdentifierLaws
pub mod PartReadingLaws
pub mod HeaderLaws
pub mod ReadingLaws
pub mod HeaderReadingLaws
pub mod CursorLaws
pub mod KeepLaws
pub mod ValuesLaws
pub mod LeavesLaws
pub mod WantedLaws
pub mod HeaderFaultLaws
pub mod ComposedLaws
pub mod InsideLaws
pub mod TriedLaws
pub mod IntegerLaws
pub mod OidLaws
pub mod TextLaws
pub mod MembersLaws
pub mod NestedFaultLaws
pub mod NestedLaws
pub mod WalkingLaws
pub mod IndexingLaws
pub mod IndexLaws
pub mod WalkLaws
pub mod WritingLaws
pub mod HeaderWritingLaws
pub mod EncodeLaws
pub mod UnsignedLaws
pub mod LeafValueLaws
pub mod LeafWritingLaws
pub mod FaultKindLaws
pub mod MemberLaws
pub mod IndexOrderLaws
pub mod FrontLaws
pub mod FirstFaultLaws
pub mod HashLaws
pub mod EachLaws
pub mod ListFaultLaws
pub mod ListedLaws
pub mod CaptureLaws
pub mod PartsLaws
pub mod FormatLaws
pub mod FoldLaws
pub mod OneFormatLaws
pub mod ChoiceLaws
mod EndLaws
mod HeaderSizeLaws
mod SomeFaultLaws
mod ShortestLaws
mod IndexReadingLaws

-- Which lemma file answers which question.
--
-- Subsets, and that a set has one list: BlocksLaws, EqualBlocksLaws. What two sets make: MergeLaws, UnionLaws,
-- DifferenceLaws. The numbers of blocks in any order: SetLaws.
-- Bits, prefixes and ranges of addresses; AS numbers: OctetsLaws, AddressLaws, PrefixLaws, RangeLaws, AsNumberLaws.
-- How readings are put together: a part and others that its value says: ThenByLaws; two ends, and that nothing is
-- allocated: ComposingLaws.
-- Blocks in sequence, counted, given by a cursor and kept: FollowLaws, ViewLaws, KeptLaws.
-- Choices and families; that reading them takes no memory: ExtensionLaws, FamilyLaws, NoMemoryLaws.
-- What a list is written as, by its prefixes and ranges: ListTextLaws. As what a text is read: AsReadLaws, IpReadLaws,
-- AddressTextLaws; of a list ListReadLaws; that it is read back ListReadBackLaws.
-- Down a chain: SettledLaws. Lists that are found and then compared as they are read: UnreadLaws, ComparedLaws.
-- What is written: octets of numbers, addresses, ends of ranges, blocks: NumberOctetsLaws, AddressWritingLaws,
-- StrippedLaws, BlockWritingLaws. That it is read back: BlockReadBackLaws, ResourcesWritingLaws. That equal octets are
-- of equal resources: BlocksApartLaws, ResourcesApartLaws. That what is read can be written, and is the only spelling:
-- WritableLaws, BlocksOnlyLaws, ResourcesOnlyLaws.
pub mod BlocksLaws
pub mod PrefixLaws
pub mod OctetsLaws
pub mod AddressLaws
pub mod RangeLaws
pub mod ThenByLaws
pub mod ComposingLaws
pub mod AsNumberLaws
pub mod FollowLaws
pub mod ViewLaws
pub mod ExtensionLaws
pub mod FamilyLaws
pub mod KeptLaws
pub mod NoMemoryLaws
pub mod MergeLaws
pub mod DifferenceLaws
pub mod UnionLaws
pub mod SetLaws
pub mod EqualBlocksLaws
pub mod SettledLaws
pub mod ComparedLaws
pub mod UnreadLaws
pub mod NumberOctetsLaws
pub mod AddressWritingLaws
pub mod StrippedLaws
pub mod BlockWritingLaws
pub mod BlockReadBackLaws
pub mod ResourcesWritingLaws
pub mod BlocksApartLaws
pub mod ResourcesApartLaws
pub mod WritableLaws
pub mod BlocksOnlyLaws
pub mod ResourcesOnlyLaws
pub mod ListTextLaws
pub mod AsReadLaws
pub mod IpReadLaws
pub mod AddressTextLaws
pub mod ListReadLaws
pub mod ListReadBackLaws

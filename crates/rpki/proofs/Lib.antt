-- Which lemma file answers which question.
--
-- Parts that may be left out; which identifier; allocation failures: PartLaws, NamedLaws, MemoryLaws.
-- Algorithms, formats, digests; their errors: AlgorithmLaws, FormatLaws, DigestLaws, AlgorithmFaultLaws.
-- Signed data: SigningLaws, SignedLaws, EqualLaws.
-- Keys and key identifiers; the bits of RSA keys; errors of keys: PublicKeyLaws, KeyIdentifierLaws, RsaPublicKeyLaws,
--   KeyFaultLaws.
-- Extensions; their errors; where their parts are, in octets and in an index: ExtensionLaws, ExtensionFaultLaws,
--   ExtensionPlaceLaws, ExtensionIndexLaws.
-- Names; their errors, and their attributes: NameLaws, OneNameLaws, NameFaultLaws, NameAttributeLaws.
-- The rules of profiles of names: RuleLaws, InspectionLaws, NameTableLaws, WithoutOrganizationLaws, SubjectLaws,
--   StrictSubjectLaws.

pub mod AlgorithmLaws
pub mod NamedLaws
pub mod PartLaws
pub mod FormatLaws
pub mod AlgorithmFaultLaws
pub mod KeyFaultLaws
pub mod DigestLaws
pub mod SigningLaws
pub mod SignedLaws
pub mod RsaPublicKeyLaws
pub mod PublicKeyLaws
pub mod KeyIdentifierLaws
pub mod EqualLaws
pub mod SubjectLaws
pub mod StrictSubjectLaws
pub mod MemoryLaws
pub mod NameLaws
pub mod NameFaultLaws
pub mod NameAttributeLaws
pub mod NameTableLaws
pub mod InspectionLaws
pub mod WithoutOrganizationLaws
pub mod OneNameLaws
pub mod RuleLaws
pub mod ExtensionLaws
pub mod ExtensionFaultLaws
pub mod ExtensionPlaceLaws
pub mod ExtensionIndexLaws

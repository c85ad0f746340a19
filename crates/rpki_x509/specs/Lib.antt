-- Definitions: what the contracts say. They are trusted, and read against the standards.
pub mod Authority
pub mod Frame
pub mod InPlace
pub mod MessageDigest
pub mod Name
pub mod Short
pub mod Signed
pub mod SignedParts
pub mod Tag
-- Lemmas that an impl cites.
pub mod TagLaws

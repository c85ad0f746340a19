-- Definitions: what the contracts say. They are trusted, and read against the standards.
pub mod ErrorTexts
pub mod Valid
pub mod ResourceSet
pub mod Revocation
pub mod Verified
pub mod CrlIssued
pub mod ObjectVerified
pub mod ObjectResources
pub mod Processed

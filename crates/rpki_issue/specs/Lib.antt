-- Definitions: what the contracts say. They are trusted, and read against the standards.
pub mod Contents
pub mod RowNames
pub mod Rows
pub mod Extensions
pub mod Tbs
pub mod Issuing
pub mod Refusal
pub mod Written
pub mod Signing
pub mod SignedList
pub mod SignedObjects
pub mod Signers
pub mod Requests
pub mod Locators
-- Lemmas that an impl cites.
pub mod TagLaws

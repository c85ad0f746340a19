-- Definitions: what the contracts say. They are trusted, and read against the standards.
pub mod Crl
pub mod CrlView
pub mod EncodedCrl
pub mod Serials
-- Lemmas that an impl cites.
pub mod EncodedLaws

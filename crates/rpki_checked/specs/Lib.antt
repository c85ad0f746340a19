-- Definitions: what the contracts say. They are trusted, and read against the standards.
pub mod Checked
pub mod Objects
pub mod Authorities

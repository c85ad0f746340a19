-- Definitions: what the contracts say. They are trusted, and read against the standards.
pub mod Request

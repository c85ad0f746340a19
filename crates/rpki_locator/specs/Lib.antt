-- Definitions: what the contracts say. They are trusted, and read against RFC 8630.
pub mod Locator
-- What functions inside say.
pub mod Sections

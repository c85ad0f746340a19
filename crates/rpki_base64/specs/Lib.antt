-- Definitions: what the contracts say. They are trusted, and read against RFC 4648.
pub mod Base64Text

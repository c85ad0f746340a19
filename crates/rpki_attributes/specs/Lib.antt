-- Definitions: what the contracts say. They are trusted, and read against the standards.
pub mod EncodedAttributes
pub mod SignedAttributes
pub mod SignedAttributesView
pub mod Sought

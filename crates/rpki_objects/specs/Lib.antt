-- Definitions: what the contracts say. They are trusted, and read against the standards.
pub mod EncodedObject
pub mod SignedObject
pub mod SignedObjectView
pub mod Strictness
pub mod TypedObject

-- Definitions: what the contracts say. They are trusted, and read against the standards.
pub mod Words
pub mod Identifiers
pub mod Checklist
pub mod ChecklistResources
pub mod ChecklistEntries
pub mod AnchorKeys
pub mod Folds
pub mod Card
pub mod CardValues

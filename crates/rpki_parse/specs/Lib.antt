-- Definitions: what the contracts say. They are trusted, and read against the standards.
pub mod Words
pub mod Parts
pub mod Value
pub mod Leaf
pub mod Optional
pub mod Fold

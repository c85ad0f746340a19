-- Definitions: what the contracts say. They are trusted, and read against the standards.
pub mod Blocks
pub mod Items
pub mod Union
pub mod Composing
pub mod Address
pub mod AsNumber
pub mod Listed
pub mod InPlace
pub mod Extension
pub mod Kept
pub mod Settled
pub mod Compared
pub mod Unread
pub mod Text
pub mod Equal
pub mod Encoded
pub mod EncodedResources
pub mod ListText
pub mod AsRead
pub mod IpRead
pub mod ListRead
pub mod Either
-- Lemmas that an `impl` cites.
pub mod EqualLaws
pub mod EncodedResourcesLaws

-- Definitions: what the contracts say. They are trusted, and read against the standards.
pub mod Aspa
pub mod AspaView
pub mod Encoded
pub mod EncodedAspa
pub mod EncodedRoa
pub mod FileName
pub mod FilesInPlace
pub mod InPlace
pub mod ListedFile
pub mod Manifest
pub mod ManifestView
pub mod Names
pub mod Roa
pub mod RoaAddress
pub mod RoaView
pub mod RouteOrigin
pub mod Within
-- Lemmas that an impl cites.
pub mod EncodedAspaLaws

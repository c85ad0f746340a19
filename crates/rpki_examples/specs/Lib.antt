pub mod Revoked
pub mod Beside
pub mod Verified
pub mod NumberList
pub mod NamedDigest

-- Definitions: what the contracts say. They are trusted, and read against the standards.
pub mod Encoding
pub mod Key
pub mod ErrorText
-- A key, and the limbs that hold it.
pub mod RsaKey
-- Words of the proofs: numbers as limbs.
pub mod Limbs
pub mod Scaled

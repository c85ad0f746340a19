-- Definitions: what the contracts say. They are trusted, and read against the standards.
pub mod Segments
pub mod UriText
pub mod RsyncText
pub mod HttpsText
pub mod Places
pub mod Buffer
pub mod Cuts
pub mod Views
pub mod SchemeText
pub mod GeneralName
pub mod HexText
pub mod ErrorText
pub mod Laws
-- Lemmas, which the prover checks: ghost items of impls cite them.
pub mod SegmentLaws
pub mod SameUriLaws
pub mod SameHttpsLaws

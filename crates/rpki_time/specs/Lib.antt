-- Definitions: what the contracts say. They are trusted, and read against the standards.
pub mod Serial
pub mod Undigited
pub mod Time
pub mod TimeText
pub mod TextPlaces
pub mod TimeValue
pub mod Validity
pub mod PeriodValue
pub mod ErrorTexts
-- Lemmas, which the prover checks: ghost items of impls cite them.
pub mod TimeValueLaws

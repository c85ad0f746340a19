-- Which lemma file answers which question.
--
-- Serial numbers: SerialLaws, SerialReadingLaws, OctetLaws, WritingLaws; in decimal digits, DecimalLaws, and
-- WordLaws of the words that are divided.
-- Times and validity periods: TimeLaws, TextLaws, TimeReadingLaws, TimeValueLaws, PeriodLaws, PeriodReadingLaws.
-- What is hashed: HashLaws.
-- What a reader returns where the octets are known: ReadBackLaws.

pub mod OctetLaws
pub mod SerialLaws
pub mod DecimalLaws
pub mod WordLaws
pub mod HashLaws
pub mod WritingLaws
pub mod ReadBackLaws
pub mod SerialReadingLaws
pub mod TimeLaws
pub mod TextLaws
pub mod TimeReadingLaws
pub mod TimeValueLaws
pub mod PeriodLaws
pub mod PeriodReadingLaws

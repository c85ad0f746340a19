-- Validity periods as values (RFC 5280 4.1.2.5).
use Rattle.std.specs.Prelude.{◌≡◌, ℕ, true, List, ◌++◌}
use Rattle.rpki_der.specs.declared.error.DecodeError.{DecodeError}
use Rattle.rpki_der.specs.Prelude.{sequence, tlv, Format, around, then, only, said_by}
use Rattle.rpki_time.specs.TimeValue.{SpellsTime, time, time_octets}
use Rattle.rpki_time.specs.Validity.{Period}

-- two times and nothing else, the start first
pub record IsPeriod (p : Period) (contents : List ℕ) : Type 0 where
  pub start : List ℕ
  pub end : List ℕ
  pub parts : contents ≡ start ++ end
  pub not_before : SpellsTime p.not_before start
  pub not_after : SpellsTime p.not_after end

-- the format of such contents: a time, and another, and nothing else
abbrev pub times : Format Period
times = said_by IsPeriod (then time (only time))

-- a SEQUENCE of two times
abbrev pub period : Format Period
period = around sequence times

-- both sides of it
abbrev pub SpellsPeriod : Period → List ℕ → Type 0
SpellsPeriod = period.spells

abbrev pub IsPeriodFault : List ℕ → DecodeError → Type 0
IsPeriodFault = period.fault

-- what is written of a period
abbrev pub period_octets : Period → List ℕ
period_octets p = tlv sequence true (time_octets p.not_before ++ time_octets p.not_after)

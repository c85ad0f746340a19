-- How formats are put together: a value that stands for what is spelled, and two ends.
use Rattle.std.specs.Prelude.{◌⊎◌}
use Rattle.rpki_der.specs.Prelude.{Then, FirstFault, IsEndFault, Format, said_by, SpellsFor, StandsForNothing}

-- the octets of F; v stands for the value of F, as R says, and some v does for each
abbrev pub standing_for : {V O : Type 0} → (V → O → Type 0) → Format O → Format V
standing_for R F = said_by (SpellsFor F.spells R) F

-- Two values of F, one after the other, which are the ends of v, as R says. The error is that of the first end; then
-- that of the second; then that they are the ends of nothing; then that something follows.
abbrev pub ends : {A V : Type 0} → (V → A × A → Type 0) → Format A → Format V
ends {A} {V} R F = record {
  spells = SpellsFor (Then F.spells F.spells) R;
  fault = FirstFault F.spells F.fault (λ low. FirstFault F.spells F.fault (λ high r e.
      StandsForNothing R (low, high) r e ⊎ (((v : V) × R v (low, high)) × IsEndFault r e)));
}

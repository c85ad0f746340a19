-- Two times that are all of the contents of a SEQUENCE.
use Rattle.std.proofs.Common.{◌+◌, ◌≤◌, ◌<◌, ◌^◌, length, lit<, arith, ◌≡◌, ◌↔◌, ℕ, true, List, [], ◌++◌, Result}
use Rattle.std.proofs.Common.{refl, sym, ap, subst, ◌∙◌}
use Rattle.jiff.specs.Types.{DateTime}
use Rattle.rpki_der.specs.declared.error.DecodeError.{DecodeError}
use Rattle.rpki_der.specs.declared.error.DecodeError.TheVariants.{OutOfMemory}
use Rattle.rpki_der.specs.Prelude.{sequence, tlv, sequence_legal, IsOuterFault, Spells, Accepts, TakesAll, then, only}
use Rattle.rpki_der.proofs.ComposedLaws.{spelled-whole}
use Rattle.rpki_der.specs.Prelude.{FirstFault, IsEndFault}
use Rattle.rpki_der.proofs.FirstFaultLaws.{first-no-memory, end-no-memory, inside-no-memory, inside-outer-exactly}
use Rattle.rpki_der.proofs.FormatLaws.{takes-said}
use Rattle.rpki_der.proofs.EncodeLaws.{tlv-legal, tlv-same}
use Rattle.rpki_time.specs.TimeValue.{SpellsTime, IsTimeFault, time, time_octets}
use Rattle.rpki_time.specs.Validity.{Period, AreTimeYears, cut_period}
use Rattle.rpki_time.specs.PeriodValue.{IsPeriod, SpellsPeriod, times, IsPeriodFault, period_octets}
use Rattle.rpki_time.proofs.ReadBackLaws.{leaf-there, tlv-short}
use Rattle.rpki_time.proofs.TimeValueLaws.{times-few, time-there, time_spelled, times-fit, time_octets-cut}

-- the start begins the contents, and the end is the rest
start-of : (c : List ℕ) (p : Period) (h : IsPeriod p c) → Spells SpellsTime c p.not_before h.end
start-of c p h = record { front = h.start; parts = h.parts; spelled = h.not_before }

end-of : (c : List ℕ) (p : Period) (h : IsPeriod p c) → Spells SpellsTime h.end p.not_after []
end-of c p h = spelled-whole SpellsTime h.end p.not_after h.not_after

-- what a period is whose start was read
pub record Later (t : DateTime) (r : List ℕ) (p : Period) : Type 0 where
  pub start : p.not_before ≡ t
  pub end : Spells SpellsTime r p.not_after []

following : (c r : List ℕ) (t : DateTime) → Accepts SpellsTime c t r → (p : Period) → IsPeriod p c → Later t r p
following c r t a p h =
    let e = a.only p.not_before h.end (start-of c p h) in
    record { start = e.0; end = subst (λ (x : List ℕ). Spells SpellsTime x p.not_after []) e.1 (end-of c p h) }

times-no-memory : (c : List ℕ) → times.fault c OutOfMemory → ⊥
times-no-memory c = first-no-memory SpellsTime IsTimeFault
    (λ start. FirstFault SpellsTime IsTimeFault (λ end. IsEndFault)) c (λ h. h)
    (λ t r. first-no-memory SpellsTime IsTimeFault (λ end. IsEndFault) r (λ h. h)
    (λ u q. end-no-memory q))

same-ends : (p q : Period) → p.not_before ≡ q.not_before → p.not_after ≡ q.not_after → p ≡ q
same-ends p q e f = λ i. record { not_before = e i; not_after = f i }

-- a period, by its two times
abbrev pub ends : Period → DateTime × DateTime
ends p = (p.not_before, p.not_after)

pub period-said : (s r : List ℕ) (x : Result Period DecodeError) → TakesAll ends (then time (only time)) s r x
    → TakesAll (λ p. p) times s r x
period-said =
    takes-said (λ p. p) IsPeriod (then time (only time)) ends
    (λ p s k. record { start = k.first; end = k.second; parts = k.parts; not_before = k.one; not_after = k.two })
    (λ p s k. record { first = k.start; second = k.end; parts = k.parts; one = k.not_before; two = k.not_after })
    (λ p q e. same-ends p q (ap (λ (x : DateTime × DateTime). x.0) e) (ap (λ (x : DateTime × DateTime). x.1) e))

-- ---- what is written

written : (p : Period) → AreTimeYears p → IsPeriod (cut_period p) (time_octets p.not_before ++ time_octets p.not_after)
written p y = record {
  start = time_octets p.not_before;
  end = time_octets p.not_after;
  parts = refl;
  not_before = time_spelled p.not_before y.not_before;
  not_after = time_spelled p.not_after y.not_after;
}

pub period-spelled : (p : Period) → AreTimeYears p → SpellsPeriod (cut_period p) (period_octets p)
period-spelled p y = record {
  contents = time_octets p.not_before ++ time_octets p.not_after;
  value = tlv-legal sequence true (time_octets p.not_before ++ time_octets p.not_after) sequence_legal
      (times-fit p.not_before p.not_after);
  spelled = written p y;
}

-- periods of the same contents are one
pub one-period : (c : List ℕ) (p q : Period) → IsPeriod p c → IsPeriod q c → q ≡ p
one-period c p q h k =
    let a = time-there c p.not_before h.end (start-of c p h) in
    let g = following c h.end p.not_before a q k in
    let b = time-there h.end p.not_after [] (end-of c p h) in
    same-ends q p g.start (b.only q.not_after [] g.end).0

pub period-there : (s rest : List ℕ) (p : Period) → AreTimeYears p → s ≡ period_octets p ++ rest
    → Accepts SpellsPeriod s (cut_period p) rest
period-there s rest p y e =
    let k : Spells SpellsPeriod s (cut_period p) rest =
    record { front = period_octets p; parts = e; spelled = period-spelled p y } in
    leaf-there sequence true IsPeriod s (cut_period p) rest k
    (λ w h. one-period k.spelled.contents (cut_period p) w k.spelled.spelled h)

pub period-same : (p q : Period) → AreTimeYears p → AreTimeYears q
    → (period_octets p ≡ period_octets q) ↔ (cut_period p ≡ cut_period q)
period-same p q y z = (
  λ e.
      let inside =
      tlv-same sequence true _ _ (times-fit p.not_before p.not_after) (times-fit q.not_before q.not_after) e in
      one-period (time_octets q.not_before ++ time_octets q.not_after) (cut_period q) (cut_period p) (written q z)
      (subst (IsPeriod (cut_period p)) inside (written p y)),
  λ e. sym (period_octets-cut p) ∙ ap period_octets e ∙ period_octets-cut q,
) where
  both : (a b c d : List ℕ) → a ≡ b → c ≡ d → a ++ c ≡ b ++ d
  both a b c d e f = cc

  period_octets-cut : (p : Period) → period_octets (cut_period p) ≡ period_octets p
  period_octets-cut p =
      ap (tlv sequence true) (both _ _ _ _ (time_octets-cut p.not_before) (time_octets-cut p.not_after))

-- the reader allocates nothing
pub period-no-memory : (s : List ℕ) → IsPeriodFault s OutOfMemory → ⊥
period-no-memory s = inside-no-memory sequence true times.fault s times-no-memory

-- where there is no SEQUENCE its error is the one of that
pub period-outer : (s : List ℕ) (e : DecodeError) → IsPeriodFault s e → IsOuterFault sequence true s e
period-outer s e = inside-outer-exactly sequence true times.fault s e times-no-memory

pub period-few : (p : Period) → length (period_octets p) ≤ 36
period-few p =
    let few = times-few p.not_before p.not_after in
    let size : length (period_octets p) ≡ 2 + length (time_octets p.not_before ++ time_octets p.not_after) = tlv-short
    sequence true (time_octets p.not_before ++ time_octets p.not_after) (lit< tt) (omega arith) in
    omega arith

pub period-fits : (p : Period) → length (period_octets p) < 2 ^ 63
period-fits p = let few = period-few p in omega arith

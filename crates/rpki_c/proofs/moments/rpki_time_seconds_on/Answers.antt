use Rattle.std.proofs.Common.{◌≡◌, ◌+ℤ◌, ℤ, FitsSigned, w64, true, false, refl, inl, inr, sym, subst, ap, ◌∙◌}
use Rattle.std.proofs.lemmas.Int.{to_z-of_z}
use Rattle.jiff.specs.Words.{civil_nanos, signed_nanos}
use Rattle.rpki_time.specs.Time.{IsTimeNanos, seconds}
use Rattle.rpki_c.proofs.MomentLaws.{later-whole}
use Rattle.rpki_c.proofs.moments.rpki_time_seconds_on.Goals as goal

pub returns-in-Some-checked_add : goal.returns-in-Some-checked_add
returns-in-Some-checked_add c =
    let later = c.in-Some-checked_add.later in
    let time = c.in-Some.time in
    let fits : FitsSigned w64 c.args.seconds = c.ranges.seconds in
    let nanos : signed_nanos c.from_secs.result ≡ seconds c.args.seconds = simp to_z-of_z at c.from_secs.ensures in
    let on : civil_nanos later ≡ civil_nanos time +ℤ seconds c.args.seconds =
    c.in-Some-checked_add.ensures.value ∙ ap (λ (z : ℤ). civil_nanos time +ℤ z) nanos in
    let whole = later-whole time later c.args.seconds c.in-Some.ensures.value.subsec on in
    inl (time, c.in-Some.ensures.value, inl (refl, (later, on, c.moment_of.ensures whole)))

pub returns-in-None : goal.returns-in-None
returns-in-None c =
    let time = c.in-Some.time in
    let fits : FitsSigned w64 c.args.seconds = c.ranges.seconds in
    let nanos : signed_nanos c.from_secs.result ≡ seconds c.args.seconds = simp to_z-of_z at c.from_secs.ensures in
    let none : IsTimeNanos (civil_nanos time +ℤ seconds c.args.seconds) → ⊥ =
    λ found.
    let both : false ≡ true = c.in-None.ensures.succeeds.1
    (subst (λ (z : ℤ). IsTimeNanos (civil_nanos time +ℤ z)) (sym nanos) found) in
    cc in
    inl (time, c.in-Some.ensures.value, inr (refl, none, refl))

use Rattle.std.proofs.Common.{◌≡◌, ◌+ℤ◌, ℤ, true, false, refl, inl, inr, sym, subst, w32}
use Rattle.std.proofs.lemmas.Int.{to_z-of_z}
use Rattle.rpki_time.specs.Time.{IsTimeYear, IsYearsOn}
use Rattle.rpki_c.proofs.time_writing.rpki_time_years_on.Goals as goal

pub returns-in-Some-years_from_now : goal.returns-in-Some-years_from_now
returns-in-Some-years_from_now c =
    let later = c.in-Some-years_from_now.later in
    let on : IsYearsOn c.args.years c.in-Some.time later =
    subst (λ (z : ℤ). IsYearsOn z c.in-Some.time later) (to_z-of_z w32 c.args.years c.ranges.years)
    c.in-Some-years_from_now.ensures.value in
    inl (c.in-Some.time, c.in-Some.ensures.value, inl (refl, (later, on, c.moment_of.ensures on.subsec)))

pub returns-in-None : goal.returns-in-None
returns-in-None c =
    let is = c.in-Some.ensures.value in
    let none : IsTimeYear (c.args.moment.now.year +ℤ c.args.years) → ⊥ =
    λ y.
    let mine : IsTimeYear (c.in-Some.time.date.year +ℤ c.args.years) =
    subst (λ (k : ℤ). IsTimeYear (k +ℤ c.args.years)) (sym is.year) y in
    let both : false ≡ true = c.in-None.ensures.succeeds.1 (rw (to_z-of_z w32 c.args.years c.ranges.years) mine) in
    cc in
    inl (c.in-Some.time, is, inr (refl, none, refl))

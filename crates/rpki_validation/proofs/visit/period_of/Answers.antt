use Rattle.rpki_validation.proofs.visit.period_of.Goals as goal

pub returns : goal.returns
returns g c = λ m.
    let trimmed = rw (c.validity.ensures, c.tbs.ensures) at c.trim.ensures.holds m in (
      λ h.
          let both = trimmed.0 h in
          ((c.period.ensures m).0 both.0, both.1),
      λ h. trimmed.1 ((c.period.ensures m).1 h.0, h.1),
    )

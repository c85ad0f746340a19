use Rattle.std.proofs.Common.{refl, inl, subst}
use Rattle.jiff.specs.Types.{DateTime}
use Rattle.rpki_c.specs.Time.{IsMoment}
use Rattle.rpki_c.proofs.MomentLaws.{whole-at, later-of-two, earlier-of-two, is-whole}
use Rattle.rpki_c.proofs.periods.rpki_validity_trim.Goals as goal

pub returns : goal.returns
returns c =
    let p = c.in-Some.ensures.value in
    let r = c.in-Some-validity_of.ensures.value in
    let start = is-whole _ c.trim-both.result.not_before
    (later-of-two _ _ (whole-at _ p.not_before.subsec) (whole-at _ r.not_before.subsec))
    c.trim-both.ensures.ends.0 in
    let end = is-whole _ c.trim-both.result.not_after
    (earlier-of-two _ _ (whole-at _ p.not_after.subsec) (whole-at _ r.not_after.subsec))
    c.trim-both.ensures.ends.1 in
    let both = c.trim-both.result in
    inl (
      c.in-Some.one,
      c.in-Some-validity_of.two,
      both,
      p,
      r,
      refl,
      c.trim-both.ensures.ends,
      record {
        not_before = subst (λ (t : DateTime). IsMoment t c.moment_of.result) c.not_before.ensures
            (c.moment_of.ensures (rw c.not_before.ensures start));
        not_after = subst (λ (t : DateTime). IsMoment t c.moment_of-2.result) c.not_after.ensures
            (c.moment_of-2.ensures (rw c.not_after.ensures end));
      },
    )

use Rattle.std.proofs.Common.{Some, inl, inr}
use Rattle.rpki_der.proofs.TriedLaws.{tried-error}
use Rattle.rpki_valid.specs.Verified.{verified_by}
use Rattle.rpki_valid.proofs.VerifiedLaws.{listed-at}
use Rattle.rpki_valid.proofs.current_crl.CurrentCrl.verify_ca.Goals as goal

pub returns-in_err-depth-clause-err : goal.returns-in_err-depth-clause-err
returns-in_err-depth-clause-err g c = tried-error _ _ _ c.from_residual.ensures
    (inl (rw c.issuer.ensures.value at c.in_err-depth.ensures.refused))

pub returns-in_err-resources-clause-err : goal.returns-in_err-resources-clause-err
returns-in_err-resources-clause-err g c = tried-error _ _ _ c.from_residual-in_err-resources.ensures
    (inr (rw c.issuer.ensures.value at c.in_ok-depth.ensures.within, c.in_err-resources.ensures.exactly))

pub of_parts-requires : goal.of_parts-requires
of_parts-requires g c = λ m h.
    let s = c.args.self.now in
    let v = verified_by g.P.Provider s.issuer in
    let holds = (rw (c.validity.ensures, c.tbs.ensures) at c.trim-period.ensures.holds m).0 h in
    let above = (c.period.ensures m).0 holds.0 in
    rw (
      c.least_asked-asked.ensures,
      c.asked.ensures,
      c.staleness.ensures,
      c.terms.ensures,
      c.provider.ensures,
      c.issuer-issuer.ensures.value,
    )
    (listed-at v s.at m c.args.cert (Some s.list) c.in_ok-resources.resources c.in_ok-resources.ensures.verified
    c.in_ok-resources.ensures.exactly above.0 holds.1 c.in_ok-depth.depth (rw c.issuer.ensures.value at
    c.in_ok-depth.ensures.next)
    (rw c.issuer.ensures.value at c.in_ok-depth.ensures.below) s.staleness s.list c.in_ok-resources.ensures.issued
    above.1 c.in_ok-resources.ensures.exactly.path.unrevoked)

pub returns-clause-period : goal.returns-clause-period
returns-clause-period g c = rw c.of_parts.ensures (λ m.
    let trimmed = rw (c.validity.ensures, c.tbs.ensures) at c.trim-period.ensures.holds m in (
      λ h.
          let both = trimmed.0 h in
          ((c.period.ensures m).0 both.0, both.1),
      λ h. trimmed.1 ((c.period.ensures m).1 h.0, h.1),
    ))

use Rattle.std.proofs.Common.{None, inl, inr}
use Rattle.rpki_der.proofs.TriedLaws.{tried-error}
use Rattle.rpki_valid.specs.Verified.{verified_by}
use Rattle.rpki_valid.proofs.VerifiedLaws.{unlisted-at}
use Rattle.rpki_valid.proofs.resource_cert.ResourceCert.verify_ca_without_list.Goals as goal

pub returns-in_err-depth-clause-err : goal.returns-in_err-depth-clause-err
returns-in_err-depth-clause-err g c = tried-error _ _ _ c.from_residual.ensures (inl c.in_err-depth.ensures.refused)

pub returns-in_err-resources-clause-err : goal.returns-in_err-resources-clause-err
returns-in_err-resources-clause-err g c = tried-error _ _ _ c.from_residual-in_err-resources.ensures
    (inr (c.in_ok-depth.ensures.within, c.in_err-resources.ensures.exactly))

pub of_parts-requires : goal.of_parts-requires
of_parts-requires g c = λ m h.
    let v = verified_by g.P.Provider c.args.self.now in
    let holds = rw (c.period.ensures, c.validity.ensures, c.tbs.ensures) at c.trim-period.ensures.holds m in
    let both = holds.0 h in
    rw (c.provider-provider.ensures, c.terms-terms.ensures) (unlisted-at v c.args.at m c.args.cert None
    c.in_ok-resources.resources c.in_ok-resources.ensures.verified c.in_ok-resources.ensures.exactly both.0 both.1
    c.in_ok-depth.depth c.in_ok-depth.ensures.next c.in_ok-depth.ensures.below)

pub returns-clause-period : goal.returns-clause-period
returns-clause-period g c = rw c.of_parts.ensures (λ m. rw (c.period.ensures, c.validity.ensures, c.tbs.ensures)
    at c.trim-period.ensures.holds m)

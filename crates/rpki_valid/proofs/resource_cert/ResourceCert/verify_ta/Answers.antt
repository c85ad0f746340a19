use Rattle.rpki_der.proofs.TriedLaws.{tried-error}
use Rattle.std.proofs.Common.{Some}
use Rattle.rpki_valid.specs.declared.staleness.Staleness.TheVariants.{Refused}
use Rattle.rpki.specs.Checkers.{checkers_of}
use Rattle.rpki_valid.specs.Verified.{holder, terms_of}
use Rattle.rpki_valid.proofs.VerifiedLaws.{root-at}
use Rattle.rpki_valid.proofs.resource_cert.ResourceCert.verify_ta.Goals as goal

pub returns-in_err-resources-clause-err : goal.returns-in_err-resources-clause-err
returns-in_err-resources-clause-err g c = tried-error _ _ _ c.from_residual.ensures c.in_err-resources.ensures

pub of_parts-requires : goal.of_parts-requires
of_parts-requires g c = λ m h.
    let p = c.args.provider.now in
    let by = checkers_of g.P.Provider p in
    let terms = terms_of c.args.terms.key.now c.args.terms.strictness c.args.terms.deepest in
    root-at terms (Some Refused) by c.args.at m (holder c.args.cert c.in_ok-resources.resources)
    c.in_ok-resources.ensures
    (rw (c.validity-period.ensures, c.tbs.ensures) at h)

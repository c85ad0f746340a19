use Rattle.rpki_cert.specs.declared.profile.Profile.TheVariants.{Ta}
use Rattle.rpki.specs.Checkers.{checkers_of}
use Rattle.rpki_valid.specs.Verified.{terms_of}
use Rattle.rpki_cert.proofs.RuleLaws.{has-policy, has-own}
use Rattle.rpki_x509.proofs.TriedLaws.{tried-fault}
use Rattle.rpki_valid.proofs.VerifiedLaws.{root-settles, root-else, root-off, root-other-key}
use Rattle.rpki_valid.proofs.resource_cert.check_ta.Goals as goal

pub settle_anchor-requires : goal.settle_anchor-requires
settle_anchor-requires g c =
    let t = c.args.cert.now.tbs in
    let has = rw c.tbs.ensures at c.in_ok-inspect_ta.ensures in
    rw c.tbs-2.ensures (record {
      form = (has-policy c.args.terms.strictness.names t Ta has).1;
      own = has-own c.args.terms.strictness.names t has;
    })

pub returns-in_err-inspect_ta : goal.returns-in_err-inspect_ta
returns-in_err-inspect_ta g c =
    let p = c.args.provider.now in
    let by = checkers_of g.P.Provider p in
    let terms = terms_of c.args.terms.key.now c.args.terms.strictness c.args.terms.deepest in
    tried-fault _ _ _ _ c.from_residual.ensures
    (root-else terms by c.args.at c.args.cert.now _ (rw c.tbs.ensures at c.in_err-inspect_ta.ensures))

pub returns-in_err-verify_anchor : goal.returns-in_err-verify_anchor
returns-in_err-verify_anchor g c =
    let p = c.args.provider.now in
    let by = checkers_of g.P.Provider p in
    let terms = terms_of c.args.terms.key.now c.args.terms.strictness c.args.terms.deepest in
    tried-fault _ _ _ _ c.from_residual-in_err-verify_anchor.ensures
    (root-off terms by c.args.at c.args.cert.now _ (rw c.tbs.ensures at c.in_ok-inspect_ta.ensures)
    c.in_err-verify_anchor.ensures)

pub returns-in_err-verify_key : goal.returns-in_err-verify_key
returns-in_err-verify_key g c =
    let p = c.args.provider.now in
    let by = checkers_of g.P.Provider p in
    let terms = terms_of c.args.terms.key.now c.args.terms.strictness c.args.terms.deepest in
    tried-fault _ _ _ _ c.from_residual-in_err-verify_key.ensures
    (root-other-key terms by c.args.at c.args.cert.now _ (rw c.tbs.ensures at c.in_ok-inspect_ta.ensures)
    c.in_ok-verify_anchor.ensures c.in_err-verify_key.ensures)

pub returns : goal.returns
returns g c =
    let p = c.args.provider.now in
    let by = checkers_of g.P.Provider p in
    let terms = terms_of c.args.terms.key.now c.args.terms.strictness c.args.terms.deepest in
    root-settles terms by c.args.at c.args.cert.now c.settle_anchor.result
    (rw c.tbs.ensures at c.in_ok-inspect_ta.ensures) c.in_ok-verify_anchor.ensures c.in_ok-verify_key.ensures
    (rw c.tbs-2.ensures at c.settle_anchor.ensures.settled)

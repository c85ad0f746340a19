use Rattle.rpki_checked.specs.Checked.{IsUnfound}
use Rattle.rpki_checked.proofs.AuthorityLaws.{one-cert, below}
use Rattle.rpki_checked.proofs.cert.verify.Goals as goal

pub returns-in-Err-clause-err : goal.returns-in-Err-clause-err
returns-in-Err-clause-err g c = IsUnfound.OfReading c.in-Err.e c.in-Err.ensures

pub returns-in-Ok-verify_ca-clause-one : goal.returns-in-Ok-verify_ca-clause-one
returns-in-Ok-verify_ca-clause-one g c =
    one-cert c.args.octets.now c.in-Ok.cert _ c.in-Ok-verify_ca.ensures.cert c.in-Ok.ensures

pub returns-in-Ok-verify_ca-clause-valid : goal.returns-in-Ok-verify_ca-clause-valid
returns-in-Ok-verify_ca-clause-valid g c =
    let p = g.P.Provider in
    let h = c.in-Ok-verify_ca.ensures in
    below p c.args.issuer.now c.in-Ok.cert _ h.cert h.ok h.path h.within h.period h.terms
    h.depth h.asked h.provider

pub returns-in-Err-verify_ca-clause-err : goal.returns-in-Err-verify_ca-clause-err
returns-in-Err-verify_ca-clause-err g c =
    IsUnfound.OfRules c.in-Ok.cert c.in-Err-verify_ca.e c.in-Ok.ensures c.in-Err-verify_ca.ensures.err

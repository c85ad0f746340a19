use Rattle.rpki.specs.Checkers.{checkers_of}
use Rattle.rpki_valid.specs.Verified.{terms_in}
use Rattle.rpki_checked.specs.Checked.{IsUnfound}
use Rattle.rpki_checked.proofs.AuthorityLaws.{one-cert, top}
use Rattle.rpki_checked.proofs.cert.verify_top.Goals as goal

pub returns-in-Err-clause-err : goal.returns-in-Err-clause-err
returns-in-Err-clause-err g c = IsUnfound.OfReading c.in-Err.e c.in-Err.ensures

pub returns-in-Ok-verify_ta-clause-one : goal.returns-in-Ok-verify_ta-clause-one
returns-in-Ok-verify_ta-clause-one g c =
    one-cert c.args.octets.now c.in-Ok.cert _ c.in-Ok-verify_ta.ensures.cert c.in-Ok.ensures

pub returns-in-Ok-verify_ta-clause-valid : goal.returns-in-Ok-verify_ta-clause-valid
returns-in-Ok-verify_ta-clause-valid g c =
    let p = g.P.Provider in
    let by = checkers_of p c.args.provider.now in
    let h = c.in-Ok-verify_ta.ensures in
    top (terms_in c.args.terms) by c.args.at c.in-Ok.cert _ h.cert h.ok h.period h.terms h.depth h.asked

pub returns-in-Err-verify_ta-clause-err : goal.returns-in-Err-verify_ta-clause-err
returns-in-Err-verify_ta-clause-err g c =
    IsUnfound.OfRules c.in-Ok.cert c.in-Err-verify_ta.e c.in-Ok.ensures c.in-Err-verify_ta.ensures.err

use Rattle.std.proofs.Common.{inl, inr}
use Rattle.rpki_x509.proofs.TriedLaws.{tried-fault}
use Rattle.rpki_valid.proofs.RulesLaws.{manifest-rules}
use Rattle.rpki_valid.proofs.manifest.verify_rules.Goals as goal

pub returns-in_err-verify_inherited : goal.returns-in_err-verify_inherited
returns-in_err-verify_inherited c =
    let broken = rw (c.tbs.ensures, c.cert.ensures, c.object.ensures) at c.in_err-verify_inherited.ensures in
    tried-fault _ _ _ _ c.from_residual.ensures
    (inl broken)

pub returns-in_err-verify_out : goal.returns-in_err-verify_out
returns-in_err-verify_out c =
    let inherited = rw (c.tbs.ensures, c.cert.ensures, c.object.ensures) at c.in_ok-verify_inherited.ensures in
    let broken = c.in_err-verify_out.ensures in
    tried-fault _ _ _ _ c.from_residual-in_err-verify_out.ensures
    (inr (inherited, inl broken))

pub returns : goal.returns
returns c =
    let inherited = rw (c.tbs.ensures, c.cert.ensures, c.object.ensures) at c.in_ok-verify_inherited.ensures in
    let out = c.in_ok-verify_out.ensures in
    manifest-rules c.args.at c.args.manifest.now inherited out _
    c.verify_current.ensures

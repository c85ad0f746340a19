use Rattle.std.proofs.Common.{inl, inr, arith, ◌<◌, List, ℕ, subst}
use Rattle.rpki_c.specs.Names.{BreaksProfile}
use Rattle.rpki_c.proofs.StatusLaws.{not-of}
use Rattle.rpki_c.proofs.names.rpki_name_inspect.Goals as goal

pub returns-in-Err-inspect : goal.returns-in-Err-inspect
returns-in-Err-inspect c =
    let s = c.args.octets.now in
    let rule = c.in-Err-inspect.rule in
    let below : c.args.profile < 2 = omega (arith, c.if-profile-gt1.false) in
    let broken : BreaksProfile c.args.profile rule s =
    subst (λ (o : List ℕ). BreaksProfile c.args.profile rule o) c.in-Ok.ensures.name.0 c.in-Err-inspect.ensures in
    inr (inl (rule, c.rule_number.ensures, below, c.if-not-strict.false, broken, not-of c.args.profile rule s broken))

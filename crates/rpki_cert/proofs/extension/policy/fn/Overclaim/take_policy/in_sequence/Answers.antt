use Rattle.rpki_der.proofs.FormatLaws.{tried, given, first, after, and}
use Rattle.rpki_cert.specs.ExtensionContent.{policy_parts}
use Rattle.rpki_cert.proofs.extension.policy.fn.Overclaim.take_policy.in_sequence.Goals as goal

pub returns-in_err-overclaim : goal.returns-in_err-overclaim
returns-in_err-overclaim c = tried (λ p. (p, tt)) policy_parts _ _ c.from_residual.ensures
    (first c.in_err-overclaim.ensures)

pub returns-in_err-skip_qualifiers : goal.returns-in_err-skip_qualifiers
returns-in_err-skip_qualifiers c =
    let (nothing, kind) = c.in_err-skip_qualifiers.ensures in
    tried (λ p. (p, tt)) policy_parts _ _ c.from_residual-in_err-skip_qualifiers.ensures
    (after c.in_ok-overclaim.ensures (record { nothing = nothing; kind = kind }))

pub returns : goal.returns
returns c =
    let (all, more) = c.in_ok-skip_qualifiers.ensures in
    given (and c.in_ok-overclaim.ensures (record { all = all; more = more }))

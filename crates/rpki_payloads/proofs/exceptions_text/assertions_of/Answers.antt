use Rattle.std.proofs.Common.{◌∙◌, inl, inr, refl, sym}
use Rattle.std.proofs.lemmas.Bool.{false≢true}
use Rattle.std.proofs.lemmas.Result.{err_from_is_err_and}
use Rattle.rpki_payloads.proofs.exceptions_text.assertions_of.Goals as goal

pub returns-then-not-has_only_two-clause-err : goal.returns-then-not-has_only_two-clause-err
returns-then-not-has_only_two-clause-err c =
    inl ((λ h. false≢true (sym c.if-not-has_only_two.true ∙ c.has_only_two.ensures.1 h)), refl)

pub returns-in_err-prefixes-clause-err : goal.returns-in_err-prefixes-clause-err
returns-in_err-prefixes-clause-err c =
    let p = err_from_is_err_and c.from_residual.result c.from_residual.ensures.1 in
    rw (p.1, p.2)
    (inr (c.has_only_two.ensures.0 c.if-not-has_only_two.false, inl c.in_err-prefixes.ensures.err))

pub returns-in_err-keys-clause-err : goal.returns-in_err-keys-clause-err
returns-in_err-keys-clause-err c =
    let p = err_from_is_err_and c.from_residual-in_err-keys.result c.from_residual-in_err-keys.ensures.1 in
    rw (p.1, p.2)
    (inr (
      c.has_only_two.ensures.0 c.if-not-has_only_two.false,
      inr (c.in_ok-prefixes.prefixes.items, c.in_ok-prefixes.ensures.ok, c.in_err-keys.ensures.err),
    ))

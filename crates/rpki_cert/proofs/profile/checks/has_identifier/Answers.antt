use Rattle.std.proofs.Common.{Option, List, ℕ, Some, false, sym, subst}
use Rattle.std.proofs.lemmas.Bool.{false≢true}
use Rattle.rpki.specs.KeyIdentifier.{SpellsKeyIdentifier}
use Rattle.rpki_cert.specs.Known.{Says}
use Rattle.rpki_cert.proofs.profile.checks.has_identifier.Goals as goal

pub returns-in-Ok : goal.returns-in-Ok
returns-in-Ok c = λ found h.
    let said = rw c.in-Ok.is at h in (
      λ z. subst (λ (o : Option (List ℕ)). Says false SpellsKeyIdentifier found o) (c.is_identifier.ensures.0 z) said.0,
      λ k. c.is_identifier.ensures.1 (sym (said.1 (Some c.args.wanted) k)),
    )

pub returns-in-Err : goal.returns-in-Err
returns-in-Err c = λ found h.
    let wrong = rw c.in-Err.is at h in
    (λ z. absurd (false≢true z), λ k. absurd (wrong.0 (Some c.args.wanted) k))

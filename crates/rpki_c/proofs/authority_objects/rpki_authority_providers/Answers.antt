use Rattle.std.proofs.Common.{inl, inr, refl, sym, ◌∙◌}
use Rattle.rpki_c.proofs.authority_objects.rpki_authority_providers.Goals as goal

pub returns-then-not-has_manifest : goal.returns-then-not-has_manifest
returns-then-not-has_manifest c = inr (inl (sym c.has_manifest.ensures ∙ c.if-not-has_manifest.true, refl), refl)

pub returns-in-Ok : goal.returns-in-Ok
returns-in-Ok c = inl (refl, sym c.has_manifest.ensures ∙ c.if-not-has_manifest.false, c.in-Ok.ensures)

pub returns-in-Err : goal.returns-in-Err
returns-in-Err c = inr (inr (sym c.has_manifest.ensures ∙ c.if-not-has_manifest.false, c.in-Err.ensures), refl)

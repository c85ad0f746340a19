use Rattle.std.proofs.Common.{inl, inr, refl, sym, ◌∙◌}
use Rattle.rpki_c.proofs.authority_end.rpki_authority_end.Goals as goal

pub returns-then-not-has_manifest : goal.returns-then-not-has_manifest
returns-then-not-has_manifest c =
    let none = inl (sym c.has_manifest.ensures ∙ c.if-not-has_manifest.true, refl) in
    inr (c.in-Some.profile, c.in-Some.ensures.end, c.in-Some.ensures.some, inr (none, refl))

pub returns-in-Ok : goal.returns-in-Ok
returns-in-Ok c =
    let has = sym c.has_manifest.ensures ∙ c.if-not-has_manifest.false in
    inr (c.in-Some.profile, c.in-Some.ensures.end, c.in-Some.ensures.some, inl (refl, has, c.in-Ok.ensures))

pub returns-in-Err : goal.returns-in-Err
returns-in-Err c =
    let has = sym c.has_manifest.ensures ∙ c.if-not-has_manifest.false in
    inr (
      c.in-Some.profile,
      c.in-Some.ensures.end,
      c.in-Some.ensures.some,
      inr (inr (has, c.in-Err.ensures), refl),
    )

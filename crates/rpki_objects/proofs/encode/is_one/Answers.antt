use Rattle.std.proofs.Common.{◌≡◌, ℕ, sym, ap, subst, ◌∙◌}
use Rattle.std.proofs.lemmas.Bool.{eqb-true, eq-eqb}
use Rattle.rpki_der.specs.Prelude.{AreValues, count}
use Rattle.rpki_objects.proofs.encode.is_one.Goals as goal

pub returns : goal.returns
returns c =
    let n = c.values.result in
    let found = c.values.ensures.count in (
      λ yes. subst (λ (k : ℕ). AreValues k c.args.values.now) (eqb-true n 1 yes) found,
      λ one.
          let same : n ≡ 1 = sym found.counted ∙ ap count (c.values.ensures.members n 1 found one) ∙ one.counted in
          eq-eqb n 1 same,
    )

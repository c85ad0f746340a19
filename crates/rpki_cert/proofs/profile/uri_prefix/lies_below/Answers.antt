use Rattle.std.proofs.Common.{◌∙◌, ◌∷◌, ◌++◌, [], List, ℕ, ap, sym, subst}
use Rattle.rpki_text.specs.RsyncText.{rsync_refusal}
use Rattle.rpki_cert.specs.RuleWords.{IsBelow}
use Rattle.rpki_cert.proofs.BelowLaws.{below-behind}
use Rattle.rpki_cert.proofs.profile.uri_prefix.lies_below.Goals as goal

pub returns-then-goes_on : goal.returns-then-goes_on
returns-then-goes_on c = λ r s.
    let (front, path, a, b, some) = c.goes_on.ensures c.if-goes_on.true in
    let below = below-behind front path (ap rsync_refusal (sym a) ∙ r) (ap rsync_refusal (sym b) ∙ s) some in (
      λ z. subst (λ (x : List ℕ). IsBelow x c.args.text.now) (sym a)
          (subst (λ (x : List ℕ). IsBelow (front ++ 47 ∷ []) x) (sym b) below),
      λ k. c.if-goes_on.true,
    )

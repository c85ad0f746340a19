use Rattle.std.proofs.Common.{◌∙◌, inl, inr, refl, sym}
use Rattle.std.proofs.lemmas.Bool.{false≢true}
use Rattle.std.proofs.lemmas.Result.{err_from_is_err_and}
use Rattle.serde_json.specs.View.{view}
use Rattle.rpki_payloads.proofs.exceptions_text.exceptions_of.Goals as goal

pub returns-then-not-has_only_three-clause-err : goal.returns-then-not-has_only_three-clause-err
returns-then-not-has_only_three-clause-err c =
    inl ((λ h. false≢true (sym c.if-not-has_only_three.true ∙ c.has_only_three.ensures.1 h)), refl)

pub returns-then-not-is_version_one-clause-err : goal.returns-then-not-is_version_one-clause-err
returns-then-not-is_version_one-clause-err c =
    inr (
      c.has_only_three.ensures.0 c.if-not-has_only_three.false,
      inl ((λ h. false≢true (sym c.if-not-is_version_one.true ∙ c.is_version_one.ensures.1 h)), refl),
    )

pub returns-in_default-clause-err : goal.returns-in_default-clause-err
returns-in_default-clause-err c =
    inr (
      c.has_only_three.ensures.0 c.if-not-has_only_three.false,
      inr (
        c.is_version_one.ensures.0 c.if-not-is_version_one.false,
        inl (sym (rw c.in_default.is at c.get.ensures), refl),
      ),
    )

pub returns-in_default-get-clause-err : goal.returns-in_default-get-clause-err
returns-in_default-get-clause-err c =
    inr (
      c.has_only_three.ensures.0 c.if-not-has_only_three.false,
      inr (
        c.is_version_one.ensures.0 c.if-not-is_version_one.false,
        inr (
          view c.in-Some.filters.now,
          sym (rw c.in-Some.is at c.get.ensures),
          inl (sym (rw c.in_default-get.is at c.get-2.ensures), refl),
        ),
      ),
    )

pub returns-in_err-prefix_filters-clause-err : goal.returns-in_err-prefix_filters-clause-err
returns-in_err-prefix_filters-clause-err c =
    let p = err_from_is_err_and c.from_residual.result c.from_residual.ensures.1 in
    rw (p.1, p.2)
    (inr (
      c.has_only_three.ensures.0 c.if-not-has_only_three.false,
      inr (
        c.is_version_one.ensures.0 c.if-not-is_version_one.false,
        inr (
          view c.in-Some.filters.now,
          sym (rw c.in-Some.is at c.get.ensures),
          inr (
            view c.in-Some-get.assertions.now,
            sym (rw c.in-Some-get.is at c.get-2.ensures),
            inl c.in_err-prefix_filters.ensures.err,
          ),
        ),
      ),
    ))

pub returns-in_err-vrps-clause-err : goal.returns-in_err-vrps-clause-err
returns-in_err-vrps-clause-err c =
    let p = err_from_is_err_and c.from_residual-in_err-vrps.result c.from_residual-in_err-vrps.ensures.1 in
    rw (p.1, p.2)
    (inr (
      c.has_only_three.ensures.0 c.if-not-has_only_three.false,
      inr (
        c.is_version_one.ensures.0 c.if-not-is_version_one.false,
        inr (
          view c.in-Some.filters.now,
          sym (rw c.in-Some.is at c.get.ensures),
          inr (
            view c.in-Some-get.assertions.now,
            sym (rw c.in-Some-get.is at c.get-2.ensures),
            inr (
              c.in_ok-prefix_filters.prefix_filters.items,
              c.in_ok-prefix_filters.key_filters.items,
              c.in_ok-prefix_filters.ensures.ok,
              c.in_err-vrps.ensures.err,
            ),
          ),
        ),
      ),
    ))

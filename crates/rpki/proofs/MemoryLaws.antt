-- Where a reader of one value may return that allocation failed.
use Rattle.std.proofs.Common.{ℕ, List, [], ◌++◌, refl, sym, ap, ◌∙◌}
use Rattle.std.proofs.lemmas.List.{append-nil}
use Rattle.rpki_der.specs.Prelude.{Accepts, IsValue, SpellsValue, HasEither}
use Rattle.rpki_der.proofs.WalkLaws.{capture-memory}
use Rattle.rpki.proofs.SignedLaws.{value-first}

-- ---- one value is a value of some form

pub has-either : (s v r : List ℕ) → Accepts SpellsValue s v r → HasEither s
has-either s v r a = (capture-memory a).kind

value-accepted : (v : List ℕ) → IsValue v → Accepts SpellsValue v v []
value-accepted v one = record {
  spells = record { front = v; parts = sym (append-nil v); spelled = record { same = refl; value = one } };
  only = λ w q h.
      let e = value-first v w [] q one h.spelled.value
      (append-nil v ∙ h.parts ∙ ap (λ (p : List ℕ). p ++ q) h.spelled.same) in
      (sym e.0, sym e.1);
}

pub value-either : (v : List ℕ) → IsValue v → HasEither v
value-either v one = has-either v v [] (value-accepted v one)

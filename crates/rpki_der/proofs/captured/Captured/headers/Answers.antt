use Rattle.std.proofs.Common.{◌∙◌, ◌<◌, ℕ, List, length, sym, subst}
use Rattle.std.specs.List.{AllByRecursion}
use Rattle.rpki_der.specs.Index.{Entry, IsIndex, StandsAt}
use Rattle.rpki_der.proofs.IndexLaws.{one-index, index-stands}
use Rattle.rpki_der.proofs.captured.Captured.headers.Goals as goal

pub returns-clause-only : goal.returns-clause-only
returns-clause-only c = λ x i.
    let here : IsIndex c.args.self.now c.self.inside.index.items = subst
    (λ (y : List ℕ). IsIndex y c.self.inside.index.items) c.self.view_is c.self.invariant in
    one-index here i ∙ sym c.deref.ensures.value

pub returns-clause-places : goal.returns-clause-places
returns-clause-places c =
    let here : IsIndex c.args.self.now c.self.inside.index.items = subst
    (λ (y : List ℕ). IsIndex y c.self.inside.index.items) c.self.view_is c.self.invariant in
    subst (λ (x : List Entry). AllByRecursion (StandsAt c.args.self.now) x) (sym c.deref.ensures.value)
    (index-stands here)

pub returns-clause-numbers : goal.returns-clause-numbers
returns-clause-numbers c = λ n within.
    let here : IsIndex c.args.self.now c.self.inside.index.items = subst
    (λ (y : List ℕ). IsIndex y c.self.inside.index.items) c.self.view_is c.self.invariant in
    record {
      index = c.self.inside.index.items;
      is = here;
      within = subst (λ (x : List Entry). n < length x)
          c.deref.ensures.value within;
    }

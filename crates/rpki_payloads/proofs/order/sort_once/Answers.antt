use Rattle.std.proofs.Common.{◌∙◌, sym}
use Rattle.std.proofs.lemmas.List.Filters.{dedup_is}
use Rattle.std.proofs.lemmas.List.Kept.{IsStrictlySortedBy-dedup, Contains-from_dedup, Contains-dedup}
use Rattle.std.proofs.lemmas.List.Sorted.{Contains-permutation, IsPermutation-sym}
use Rattle.std.proofs.lemmas.Map.Views.{tells_apart}
use Rattle.rpki_payloads.proofs.order.sort_once.Goals as goal

pub returns-clause-order : goal.returns-clause-order
returns-clause-order g c =
    rw (dedup_is _ _ _ c.dedup.ensures.filtered)
    (IsStrictlySortedBy-dedup g.met.T.Ord.total g.met.T.Ord.matches_eq _ c.sort_unstable.ensures.sorted)

pub returns-clause-none : goal.returns-clause-none
returns-clause-none g c = λ v h.
    Contains-permutation _ _ v (IsPermutation-sym _ _ c.sort_unstable.ensures.permutation)
    (Contains-from_dedup _ _ v (rw (dedup_is _ _ _ c.dedup.ensures.filtered) at h))

pub returns-clause-all : goal.returns-clause-all
returns-clause-all g c = λ exact v h.
    rw (dedup_is _ _ _ c.dedup.ensures.filtered)
    (Contains-dedup g.met.T.Eq.laws (λ x y e. tells_apart exact x y (sym (g.met.T.Ord.matches_eq x y) ∙ e)) _ v
    (Contains-permutation _ _ v c.sort_unstable.ensures.permutation h))

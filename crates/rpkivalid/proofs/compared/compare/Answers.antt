use Rattle.rpki_der.proofs.TriedLaws.{tried-error}
use Rattle.rpkivalid.specs.ComparedView.{OfFiles}
use Rattle.rpkivalid.proofs.compared.compare.Goals as goal

pub only_in-requires : goal.only_in-requires
only_in-requires g c = rw c.as_slice-their.ensures.value c.in_ok-theirs.ensures.order

pub only_in-requires-2 : goal.only_in-requires-2
only_in-requires-2 g c = rw c.as_slice-our.ensures.value c.in_ok-ours.ensures.order

pub returns-clause-compared : goal.returns-clause-compared
returns-clause-compared g c = record {
  theirs = c.in_ok-theirs.theirs.items;
  lists = c.in_ok-theirs.ensures.lists;
  ours = c.in_ok-ours.ours.vrps.items;
  ours_are = c.in_ok-ours.ensures.found;
  alone = c.in_ok-there.there;
  alone_are = rw (c.as_slice-their.ensures.value, c.as_slice-our.ensures.value) at c.in_ok-there.ensures;
  why = c.in_ok-said.said.items;
  says = c.in_ok-said.ensures.told;
  text_is = rw (
    c.in_ok-text.ensures,
    c.as_slice-3.ensures.value,
    c.as_slice-4.ensures.value,
    c.in_ok-here.ensures,
    c.in_ok-there.ensures,
    c.as_slice-our.ensures.value,
    c.as_slice-their.ensures.value,
    c.as_slice-5.ensures.value,
  ) at c.in_ok-extend_from_slice.ensures.items;
  same_is = rw (
    c.as_slice.ensures.value,
    c.as_slice-2.ensures.value,
    c.in_ok-here.ensures,
    c.in_ok-there.ensures,
    c.as_slice-our.ensures.value,
    c.as_slice-their.ensures.value,
  ) at c.are_empty-are_same.ensures;
}

pub returns-in_err-ours-clause-denied : goal.returns-in_err-ours-clause-denied
returns-in_err-ours-clause-denied g c =
    tried-error _ _ _ c.from_residual-in_err-ours.ensures (OfFiles c.in_err-ours.ensures.denied)

pub returns-in_err-said-clause-denied : goal.returns-in_err-said-clause-denied
returns-in_err-said-clause-denied g c =
    tried-error _ _ _ c.from_residual-in_err-said.ensures (OfFiles c.in_err-said.ensures.denied)

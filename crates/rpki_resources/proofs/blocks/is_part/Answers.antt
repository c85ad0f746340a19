use Rattle.std.proofs.Common.{refl}
use Rattle.rpki_resources.proofs.BlocksLaws.{outer-passed, outers-passed, inner-passed, found-before, found-behind}
use Rattle.rpki_resources.proofs.BlocksLaws.{found-none, all-found, empty}
use Rattle.rpki_resources.proofs.blocks.is_part.Goals as goal

pub pairs-preserved-then-outer-inner : goal.pairs-preserved-then-outer-inner
pairs-preserved-then-outer-inner c =
    let is = outer-passed c.args.part.now c.args.whole.now c.pairs.inners.now c.pairs.outers.now
    c.in-Some-split_first.others.now c.in-Some.later.now c.in-Some-split_first.outer.now c.in-Some.inner.now
    c.in-Some.ensures.cases.0 c.in-Some-split_first.ensures.cases.0 c.pairs.invariant.same c.pairs.invariant.inners
    c.pairs.invariant.outers c.if-outer-inner.true in
    record {
      inners = c.pairs.invariant.inners;
      outers = c.from_number-outers.ensures.canonical;
      same = outers-passed c.args.part.now c.args.whole.now c.pairs.inners.now c.in-Some-split_first.others.now
          c.from_number-outers.result.now c.in-Some.later.now c.in-Some.inner.now c.in-Some.ensures.cases.0 is.1
          c.pairs.invariant.inners c.from_number-outers.ensures.same;
    }

pub pairs-preserved : goal.pairs-preserved
pairs-preserved c =
    let is = inner-passed c.args.part.now c.args.whole.now c.pairs.inners.now c.pairs.outers.now
    c.in-Some-split_first.others.now c.in-Some.later.now c.in-Some-split_first.outer.now c.in-Some.inner.now
    c.in-Some.ensures.cases.0 c.in-Some-split_first.ensures.cases.0 c.pairs.invariant.same c.pairs.invariant.inners
    c.if-inner-outer.false c.if-outer-inner-2.false in
    record { inners = is.0; outers = c.pairs.invariant.outers; same = is.1 }

pub returns-then-inner-outer : goal.returns-then-inner-outer
returns-then-inner-outer c = (
  λ z. let no : ⊥ = cc in absurd no,
  λ f.
      absurd (found-before c.args.part.now c.args.whole.now c.pairs.inners.now c.pairs.outers.now
      c.in-Some-split_first.others.now c.in-Some.later.now c.in-Some-split_first.outer.now c.in-Some.inner.now
      c.in-Some.ensures.cases.0 c.in-Some-split_first.ensures.cases.0 c.pairs.invariant.same
      c.pairs.invariant.inners c.pairs.invariant.outers c.if-inner-outer.true f),
)

pub returns-then-outer-inner-2 : goal.returns-then-outer-inner-2
returns-then-outer-inner-2 c = (
  λ z. let no : ⊥ = cc in absurd no,
  λ f.
      absurd (found-behind c.args.part.now c.args.whole.now c.pairs.inners.now c.pairs.outers.now
      c.in-Some-split_first.others.now c.in-Some.later.now c.in-Some-split_first.outer.now c.in-Some.inner.now
      c.in-Some.ensures.cases.0 c.in-Some-split_first.ensures.cases.0 c.pairs.invariant.same
      c.pairs.invariant.outers c.if-outer-inner.false c.if-outer-inner-2.true f),
)

pub returns-in-None : goal.returns-in-None
returns-in-None c = (
  λ z. let no : ⊥ = cc in absurd no,
  λ f.
      absurd (found-none c.args.part.now c.args.whole.now c.pairs.inners.now c.pairs.outers.now c.in-Some.later.now
      c.in-Some.inner.now c.in-Some.ensures.cases.0 (empty _ c.in-None.ensures.cases) c.pairs.invariant.same
      c.pairs.invariant.inners f),
)

pub returns : goal.returns
returns c = (
  λ z. all-found c.args.part.now c.args.whole.now c.pairs.inners.now c.pairs.outers.now
      (empty _ c.in_default.ensures.cases) c.pairs.invariant.same,
  λ f. refl,
)

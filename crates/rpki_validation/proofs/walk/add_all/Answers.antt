use Rattle.std.proofs.Common.{◌≡◌, ◌++◌, ◌∙◌, inl, List, [], ◌∷◌, ap, append_assoc, append-nil, arith, length}
use Rattle.std.proofs.Common.{refl, subst}
use Rattle.std.proofs.Common.{◌⊎◌, sym}
use Rattle.std.specs.List.{Contains}
use Rattle.std.specs.Vec.Iter.{into_iter_items}
use Rattle.rpki_valid.specs.Verified.{Authority}
use Rattle.rpki_validation.specs.Waiting.{AddsBelowAll, Entry}
use Rattle.rpki_validation.proofs.BelowLaws.{below-more, below-none, only-more}
use Rattle.rpki_validation.proofs.walk.add_all.Goals as goal

pub below-init : goal.below-init
below-init g c =
    let gives = c.into_iter-authority-iterator.ensures.into_iter_gives in
    record {
      next = tt;
      ends = tt;
      count = omega (arith, gives.1, ap length gives.0, c.args.below.ok.0);
      done = [];
      whole = sym gives.0;
      adds = λ published known. below-none published c.args.place.now c.args.waiting.now;
      only = λ e h. inl h;
    }

pub below-preserved : goal.below-preserved
below-preserved g c =
    let before = c.below.invariant in
    let a = c.in-Some.authority in
    record {
      next = tt;
      ends = tt;
      count = omega (arith, ap length c.in-Some.ensures.steps.0, c.in-Some.ensures.steps.1, before.count);
      done = before.done ++ (a ∷ []);
      whole = before.whole
          ∙ ap (λ (xs : List (Authority g.row.P.Denot)). before.done ++ xs) c.in-Some.ensures.steps.0
          ∙ sym (append_assoc before.done (a ∷ []) (into_iter_items c.next.new.self));
      adds = λ published known.
          let named = rw (c.strictness-strict.ensures, c.cert.ensures.value) at
          (c.in_ok-is_named.ensures published known) in
          below-more published c.args.place.now before.done a c.args.waiting.now c.below.waiting c.add.new.self
          c.in_ok-is_named.is_named (before.adds published known) c.in_ok-add.ensures named;
      only = only-more before.done a c.args.waiting.now c.below.waiting c.add.new.self c.in_ok-is_named.is_named
          before.only c.in_ok-add.ensures;
    }

nothing : {X : Type 0} (xs : List X) → length xs ≡ 0 → xs ≡ []
nothing [] e = refl
nothing (x ∷ xs) e = absurd (omega (arith, e))

all-of : {X : Type 0} (whole done rest : List X) → whole ≡ done ++ rest → length rest ≡ 0 → done ≡ whole
all-of {X} whole done rest e none =
    sym (append-nil done) ∙ ap (λ (xs : List X). done ++ xs) (sym (nothing rest none)) ∙ sym e

pub returns-clause-all : goal.returns-clause-all
returns-clause-all g c = λ published known.
    let before = c.below.invariant in
    let all = all-of c.args.below.items before.done (into_iter_items c.below.authority-iterator) before.whole
    (omega (arith, c.in-None.ensures.steps.0, before.count)) in
    subst (λ (xs : List (Authority g.row.P.Denot)). AddsBelowAll published c.args.place.now xs c.args.waiting.now
    c.below.waiting) all (before.adds published known)

pub returns-clause-waiting : goal.returns-clause-waiting
returns-clause-waiting g c =
    let before = c.below.invariant in
    let all = all-of c.args.below.items before.done (into_iter_items c.below.authority-iterator) before.whole
    (omega (arith, c.in-None.ensures.steps.0, before.count)) in
    subst (λ (xs : List (Authority g.row.P.Denot)). (e : Entry g.row.P.Denot) → Contains c.below.waiting e
    → Contains c.args.waiting.now e ⊎ Contains xs e.1) all before.only

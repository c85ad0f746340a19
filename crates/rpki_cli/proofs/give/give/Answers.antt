use Rattle.std.proofs.Common.{◌≡◌, None, Some, ap, inl, inr, refl, subst}
use Rattle.rpki_cli.specs.declared.put.Put.TheVariants.{NoMetrics, Unplaced, Unwritten}
use Rattle.rpki_cli.specs.Given.{Half, IsPut, OfBoth, OfList, OfMetrics, half_written, named, unwritten}
use Rattle.rpki_cli.specs.World.{IsSaid}
use Rattle.rpki_cli.proofs.give.give.Goals as goal

pub returns-in-NoList-clause-given : goal.returns-in-NoList-clause-given
returns-in-NoList-clause-given g c = λ k.
    OfList (g.M.Machine.world c.put_all.new.m) (c.in-NoList.ensures.put k)
    (subst (λ n. IsSaid (g.M.Machine.world c.put_all.new.m) (g.M.Machine.world c.denied.new.m) c.args.program.now
    n unwritten) c.name_of.ensures (c.denied.ensures.told (c.put_all.ensures.known k)))
    c.denied.ensures.status

pub returns-in-NoMetrics-clause-given : goal.returns-in-NoMetrics-clause-given
returns-in-NoMetrics-clause-given g c = λ k.
    OfMetrics NoMetrics (g.M.Machine.world c.put_all.new.m) (inl refl) (c.in-NoMetrics.ensures.put k)
    (subst (λ n. IsSaid (g.M.Machine.world c.put_all.new.m) (g.M.Machine.world c.denied-in-NoMetrics.new.m)
    c.args.program.now
    n unwritten) c.name_in.ensures
    (c.denied-in-NoMetrics.ensures.told (c.put_all.ensures.known k)))
    c.denied-in-NoMetrics.ensures.status

pub returns-in-Unplaced-clause-given : goal.returns-in-Unplaced-clause-given
returns-in-Unplaced-clause-given g c = λ k.
    OfMetrics Unplaced (g.M.Machine.world c.put_all.new.m) (inr refl) (c.in-Unplaced.ensures.put k)
    (subst (λ n. IsSaid (g.M.Machine.world c.put_all.new.m) (g.M.Machine.world c.denied-in-Unplaced.new.m)
    c.args.program.now
    n unwritten) c.name_in-in-Unplaced.ensures
    (c.denied-in-Unplaced.ensures.told (c.put_all.ensures.known k)))
    c.denied-in-Unplaced.ensures.status

pub returns-in-None-clause-given : goal.returns-in-None-clause-given
returns-in-None-clause-given g c = λ k.
    let none : named c.args.metrics ≡ None = ap named c.in-None.is in
    OfBoth (g.M.Machine.world c.put_all.new.m) none
    (subst (λ m. IsPut (g.M.Machine.world c.args.m.now) (g.M.Machine.world c.put_all.new.m)
    (named c.args.output) c.args.text.now m c.args.counts.now Unwritten) none
    (c.in-Unwritten.ensures.put k))
    (subst (λ n. IsSaid (g.M.Machine.world c.put_all.new.m) (g.M.Machine.world c.denied-in-None.new.m)
    c.args.program.now
    n unwritten) c.name_of-in-None.ensures
    (c.denied-in-None.ensures.told (c.put_all.ensures.known k)))
    c.denied-in-None.ensures.status

pub returns-in-Some-clause-given : goal.returns-in-Some-clause-given
returns-in-Some-clause-given g c = λ k.
    let some : named c.args.metrics ≡ Some c.in-Some.field-0.now = ap named c.in-Some.is in
    Half c.in-Some.field-0.now (g.M.Machine.world c.put_all.new.m) some
    (subst (λ m. IsPut (g.M.Machine.world c.args.m.now) (g.M.Machine.world c.put_all.new.m)
    (named c.args.output) c.args.text.now m c.args.counts.now Unwritten) some
    (c.in-Unwritten.ensures.put k))
    (subst (λ n. IsSaid (g.M.Machine.world c.put_all.new.m) (g.M.Machine.world c.denied-in-Some.new.m)
    c.args.program.now
    n half_written) c.name_of-in-Some.ensures
    (c.denied-in-Some.ensures.told (c.put_all.ensures.known k)))
    refl

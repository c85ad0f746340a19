use Rattle.std.proofs.Common.{◌≡◌, ◌<◌, List, length, arith, sym, subst}
use Rattle.rpki_der.specs.Index.{Entry}
use Rattle.rpki_der.specs.IndexOrder.{HasEnd}
use Rattle.rpki_der.specs.MembersLeft.{numbers_left}
use Rattle.rpki_der.proofs.IndexOrderLaws.{index-in-order, members-after, has-end}
use Rattle.rpki_der.proofs.captured.Captured.inner_members.Goals as goal

pub entry_of-value-requires : goal.entry_of-value-requires
entry_of-value-requires c =
    subst (λ (x : List Entry). c.args.number < length x) (c.headers-entries.ensures.only c.requires.index c.requires.is)
    c.requires.within

pub overflow_add-result : goal.overflow_add-result
overflow_add-result c =
    let within : c.args.number < length c.headers-entries.result.now =
    subst (λ (x : List Entry). c.args.number < length x) (c.headers-entries.ensures.only c.requires.index c.requires.is)
    c.requires.within in
    omega (arith, within, c.headers-entries.type_inv)

pub invariant_of-result : goal.invariant_of-result
invariant_of-result c =
    let es = c.headers-entries.result.now in
    let ordered = index-in-order c.headers-entries.ensures.index in
    let end = has-end es ordered c.args.number c.entry_of-value.result c.entry_of-value.ensures in
    record {
      ordered = ordered;
      ends = λ p is.
          let same : c.entry_of-value.result.past ≡ p = cc in
          subst (HasEnd _ es) same end;
    }

pub returns : goal.returns
unfolding numbers_left
returns c =
    let es = c.headers-entries.result.now in
    let within : c.args.number < length es =
    subst (λ (x : List Entry). c.args.number < length x) (c.headers-entries.ensures.only c.requires.index c.requires.is)
    c.requires.within in (
      es,
      c.headers-entries.ensures.index,
      sym
          (members-after es (index-in-order c.headers-entries.ensures.index) c.args.number c.entry_of-value.result
          within),
    )

use Rattle.std.proofs.Common.{◌≤◌, ◌+◌, arith, ap, length}
use Rattle.std.specs.Prelude.{set}
use Rattle.rpki_c.specs.declared.index.Entry.{Entry}
use Rattle.rpki_c.proofs.FillingLaws.{filling-none, has-next, step}
use Rattle.rpki_c.proofs.index.write_index.Goals.{then-found, else-found}
use Rattle.rpki_c.proofs.index.write_index.Goals as goal

pub values-init : goal.values-init
values-init c =
    record { low = omega arith; filling = filling-none _ _ c.requires.values.1 c.requires.values.2 }

pub returns-in-Err : goal.returns-in-Err
returns-in-Err c =
    let n = has-next c.values.invariant.filling c.values-test.true in
    absurd (c.in-Err.ensures.err.0 n.is.found n.is.rest n.is.spells)

pub innermost-parent-requires : goal.innermost-parent-requires
innermost-parent-requires c =
    let n = has-next c.values.invariant.filling c.values-test.true in
    (n.entry.parent, n.is.closes)

pub values-preserved : goal.values-preserved
values-preserved c =
    let n = has-next c.values.invariant.filling c.values-test.true in
    let t = step c.in-Ok.found.1 n (omega (arith, c.requires.room, c.values-test.true)) c.in-Ok.ensures.ok
    c.in-Ok.ensures.within (c.innermost-parent.ensures n.entry.parent n.is.closes)
    (ap (λ (x : Entry). set c.values.entries c.values.number x) c.entry_at.ensures) in
    elim c.if-found.branch [
      | then-found w ↦
          let low : c.values.place + c.in-Ok.found.1 ≤ length c.args.octets.now = omega (arith, t.fits) in
          rw (w.place-is, w.last-is) (record { low = low; filling = t.constructed w.if-found.true })
      | else-found w ↦
          rw (w.place-is, w.last-is) (record { low = t.fits; filling = t.primitive w.if-found.false })
    ]

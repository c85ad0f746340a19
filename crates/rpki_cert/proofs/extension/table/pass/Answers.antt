use Rattle.std.proofs.Common.{◌≡◌, ◌∙◌, inl, inr, sym, arith, ap, length, refl, true}
use Rattle.std.specs.Prelude.{not, ◌||◌, ◌&&◌}
use Rattle.std.proofs.lemmas.Bool.{iff_false}
use Rattle.rpki_der.specs.Cursor.{left}
use Rattle.rpki_der.specs.TagName.{sequence}
use Rattle.rpki_der.specs.FirstFault.RepeatedFault.{AtMember}
use Rattle.rpki_der.proofs.LeafValueLaws.{leaf-shorter}
use Rattle.rpki.specs.ExtensionValue.{IsExtensionContents}
use Rattle.rpki_cert.specs.Known.{is_known}
use Rattle.rpki_x509.proofs.FrameLaws.{extension-refused}
use Rattle.rpki_cert.proofs.ListedLaws.{nothing-there, faults-all, faults-on}
use Rattle.rpki_cert.proofs.TableLaws.{passing-all, passing-first, passing-again, passing-none, passing-table}
use Rattle.rpki_cert.proofs.TableLaws.{passing-end, both-known, one-unknown, free-slot, full-slot}
use Rattle.rpki_cert.proofs.extension.table.pass.Goals as goal
use Rattle.rpki_cert.proofs.extension.table.pass.Goals.{then-understood, else-understood}

pub returns-then-is_empty-clause-err : goal.returns-then-is_empty-clause-err
returns-then-is_empty-clause-err c =
    let end = c.is_empty.ensures.0 c.if-is_empty.true in
    rw c.content.ensures (nothing-there _ end, inl (end, refl))

pub extensions-init : goal.extensions-init
extensions-init c = rw (c.from_slice-rest.ensures, c.rest.ensures) (passing-all _ _ _ refl refl, faults-all _)

pub overflow_add-count : goal.overflow_add-count
unfolding left
overflow_add-count c =
    let more = leaf-shorter sequence true IsExtensionContents _ _ _ c.in-Ok.ensures.spells in
    let room = c.rest.type_inv.0 in
    omega (arith, c.extensions.invariant.0.room, more, room, ap length c.rest.ensures)

pub extensions-preserved-then-is_some : goal.extensions-preserved-then-is_some
extensions-preserved-then-is_some c =
    let x = c.in-Ok.extension in
    let some = iff_false c.is_empty-in-extensions.ensures c.extensions-test.true in
    let here = rw c.id.ensures at c.slot_of-slot.ensures.slot in
    let known : c.is_understood_in-known.result ≡ (not x.critical || is_known x.identifier) =
    rw c.critical.ensures at (c.is_understood_in-known.ensures _ here) in
    let is : c.if-understood.understood ≡ (c.extensions.understood && (not x.critical || is_known x.identifier)) =
    elim c.if-understood.branch [
      | then-understood w ↦ both-known _ _ _ _ known w.if-understood.true w.understood-is
      | else-understood w ↦ one-unknown _ _ _ w.if-understood.false (w.understood-is ∙ w.if-understood.false)
    ] in
    let full = full-slot _ (sym c.is_some.ensures ∙ c.if-is_some.true) in (
      passing-again _ _ _ x _ _ _ _ _ some c.in-Ok.ensures c.extensions.invariant.0 _ _ is here full,
      faults-on _ _ _ x some c.in-Ok.ensures c.extensions.invariant.1,
    )

pub extensions-preserved : goal.extensions-preserved
extensions-preserved c =
    let x = c.in-Ok.extension in
    let some = iff_false c.is_empty-in-extensions.ensures c.extensions-test.true in
    let here = rw c.id.ensures at c.slot_of-slot.ensures.slot in
    let known : c.is_understood_in-known.result ≡ (not x.critical || is_known x.identifier) =
    rw c.critical.ensures at (c.is_understood_in-known.ensures _ here) in
    let is : c.if-understood.understood ≡ (c.extensions.understood && (not x.critical || is_known x.identifier)) =
    elim c.if-understood.branch [
      | then-understood w ↦ both-known _ _ _ _ known w.if-understood.true w.understood-is
      | else-understood w ↦ one-unknown _ _ _ w.if-understood.false (w.understood-is ∙ w.if-understood.false)
    ] in
    let free = free-slot _ (sym c.is_some.ensures ∙ c.if-is_some.false) in (
      passing-first _ _ _ x _ _ _ _ _ some c.in-Ok.ensures c.extensions.invariant.0 _ _ is here _ _
          c.slot_of-slot.ensures.few free c.octets.ensures c.critical-else-is_some.ensures,
      faults-on _ _ _ x some c.in-Ok.ensures c.extensions.invariant.1,
    )

pub returns-in-Err-clause-err : goal.returns-in-Err-clause-err
returns-in-Err-clause-err c =
    let some = iff_false c.is_empty-in-extensions.ensures c.extensions-test.true in
    let h = c.in-Err.ensures in (
      passing-none _ _ _ _ _ _ _ some c.extensions.invariant.0 (extension-refused _ _ _ h),
      inr (
        iff_false c.is_empty.ensures c.if-is_empty.false,
        c.extensions.invariant.1.kept _
            (AtMember some h.refuses h.kind),
      ),
    )

pub invariant_of-result : goal.invariant_of-result
invariant_of-result c =
    let end = c.is_empty-in-extensions.ensures.0 c.extensions-test.false in
    rw c.rest-2.ensures (passing-table _ _ _ _ _ _ _ end c.extensions.invariant.0)

pub returns-clause-ok : goal.returns-clause-ok
returns-clause-ok c =
    let some = iff_false c.is_empty.ensures c.if-is_empty.false in
    let end = c.is_empty-in-extensions.ensures.0 c.extensions-test.false in
    passing-end _ _ _ _ _ _ _ end c.extensions.invariant.0 _ some c.rest-2.ensures refl refl

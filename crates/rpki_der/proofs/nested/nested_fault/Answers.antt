use Rattle.std.proofs.Common.{arith, ap, length, refl, ◌∙◌, ◌-◌, ℕ, length-append}
use Rattle.std.proofs.lemmas.Bool.{iff_false}
use Rattle.rpki_der.specs.Cursor.{left}
use Rattle.rpki_der.proofs.NestedLaws.{any-shorter, any-refused, headed-after, headed-append, no-front, behind-header}
use Rattle.rpki_der.proofs.NestedLaws.{front-of-stop, pending-primitive, pending-opened, pending-stopped, pending-some}
use Rattle.rpki_der.proofs.NestedLaws.{pending-none}
use Rattle.rpki_der.proofs.nested.nested_fault.Goals as goal

pub headers-smaller-in-Ok-default-Primitive : goal.headers-smaller-in-Ok-default-Primitive
headers-smaller-in-Ok-default-Primitive c = omega (arith, any-shorter _ _ _ c.in-Ok-default-Primitive.ensures)

pub headers-preserved-in-Ok-default-Primitive : goal.headers-preserved-in-Ok-default-Primitive
headers-preserved-in-Ok-default-Primitive c =
    let some = iff_false c.is_empty.ensures c.headers-test.true in
    let a = rw c.in-Ok-default-Primitive.field-0-1-is at c.in-Ok-default-Primitive.ensures in (
      headed-after _ _ _ some a c.headers.invariant.0,
      pending-primitive _ _ _ _ _ _ a c.headers.invariant.1,
    )

pub headers-smaller-in-Ok : goal.headers-smaller-in-Ok
headers-smaller-in-Ok c =
    let a = rw c.in-Ok-default-Constructed.field-0-1-is at c.in-Ok-default-Constructed.ensures in
    let inside = c.split_at.ensures.following ∙ behind-header _ _ _ _ a
    (rw (c.len.ensures, c.len-in-Ok.ensures, c.len-in-Ok-2.ensures) refl) in
    omega (
      arith,
      any-shorter _ _ _ a,
      ap length inside,
      length-append (left c.in-Ok-default-Constructed.contents)
          (left c.take_value.new.self),
    )

pub headers-preserved-in-Ok : goal.headers-preserved-in-Ok
headers-preserved-in-Ok c =
    let some = iff_false c.is_empty.ensures c.headers-test.true in
    let a = rw c.in-Ok-default-Constructed.field-0-1-is at c.in-Ok-default-Constructed.ensures in
    let inside = c.split_at.ensures.following ∙ behind-header _ _ _ _ a
    (rw (c.len.ensures, c.len-in-Ok.ensures, c.len-in-Ok-2.ensures) refl) in
    rw inside (
      headed-append _ _ c.in-Ok.ensures.ok (headed-after _ _ _ some a c.headers.invariant.0),
      pending-opened _ _ _ _ _ c.headers.fault a c.in-Ok.ensures.ok c.headers.invariant.1,
    )

pub headers-smaller : goal.headers-smaller
headers-smaller c =
    let a = rw c.in-Ok-default-Constructed.field-0-1-is at c.in-Ok-default-Constructed.ensures in
    let h = c.in-Err-tile.ensures.err in
    let front = c.split_at-in-Err-tile.ensures.front ∙ front-of-stop _ _ _ _ h
    (ap (λ (n : ℕ). n - c.in-Err-tile.size) c.len-in-Err-tile.ensures) in
    omega (arith, any-shorter _ _ _ a, ap length front, ap length h.parts, length-append h.front h.rest)

pub headers-preserved : goal.headers-preserved
headers-preserved c =
    let a = rw c.in-Ok-default-Constructed.field-0-1-is at c.in-Ok-default-Constructed.ensures in
    let h = c.in-Err-tile.ensures.err in
    let front = c.split_at-in-Err-tile.ensures.front ∙ front-of-stop _ _ _ _ h
    (ap (λ (n : ℕ). n - c.in-Err-tile.size) c.len-in-Err-tile.ensures) in
    rw front (h.headed, pending-stopped _ _ _ _ _ c.headers.fault _ _ a h c.headers.invariant.1)

pub returns-in-Err-clause-some : goal.returns-in-Err-clause-some
returns-in-Err-clause-some c =
    let some = iff_false c.is_empty.ensures c.headers-test.true in
    absurd (no-front _ some (any-refused _ _ c.in-Err.e c.in-Err.ensures) c.headers.invariant.0)

pub returns-clause-some : goal.returns-clause-some
returns-clause-some c =
    pending-some _ _ c.headers.fault (c.is_empty.ensures.0 c.headers-test.false) c.headers.invariant.1

pub returns-clause-none : goal.returns-clause-none
returns-clause-none c =
    pending-none _ _ c.headers.fault (c.is_empty.ensures.0 c.headers-test.false) c.headers.invariant.1

use Rattle.std.proofs.Common.{refl}
use Rattle.rpki_der.specs.declared.error.DecodeError.TheVariants.{OutOfMemory}
use Rattle.rpki_der.proofs.TriedLaws.{tried-refused}
use Rattle.rpki_attributes.specs.SignedAttributes.{values_known}
use Rattle.rpki_attributes.proofs.AttributesLaws.{no-list, others, not-kept, all-kept}
use Rattle.rpki_attributes.proofs.signed_attrs.SignedAttrs.take_from.Goals as goal

pub returns-in_err-all : goal.returns-in_err-all
returns-in_err-all c =
    tried-refused _ _ _ _ _ _ _ c.from_residual.ensures (no-list c.args.strict _ _ _ c.in_err-all.ensures)

pub returns-in_err-message-in-Some : goal.returns-in_err-message-in-Some
returns-in_err-message-in-Some c =
    let found = rw c.deref.ensures.value at c.in-Some.ensures in
    tried-refused _ _ _ _ _ OutOfMemory _ c.from_residual-in_err-message-in-Some.ensures
    (not-kept c.args.strict _ _ _ c.in_ok-all.ensures (values_known c.in-Some.known) found.0)

pub returns-in_err-content_type-in-Some : goal.returns-in_err-content_type-in-Some
returns-in_err-content_type-in-Some c =
    let found = rw c.deref.ensures.value at c.in-Some.ensures in
    tried-refused _ _ _ _ _ OutOfMemory _ c.from_residual-in_err-content_type-in-Some.ensures
    (not-kept c.args.strict _ _ _ c.in_ok-all.ensures (values_known c.in-Some.known) found.0)

pub returns-in-Some : goal.returns-in-Some
returns-in-Some c =
    let found = rw c.deref.ensures.value at c.in-Some.ensures in
    let a = c.in_ok-all.ensures in
    let message = rw (c.rest.ensures, c.rest-in-Some.ensures) at c.in_ok-message-in-Some.ensures in
    rw c.in_ok-content_type-in-Some.ensures
    (all-kept c.args.strict _ _ _ a (values_known c.in-Some.known) found.0 found.1 c.in_ok-message-in-Some.message
    (message a.spells.front a.spells.parts))

pub returns : goal.returns
returns c =
    let none = rw c.deref.ensures.value at c.in-None.ensures in
    others c.args.strict _ _ _ c.in_ok-all.ensures none _ (rw c.content.ensures refl)

use Rattle.std.proofs.Common.{true}
use Rattle.rpki_der.specs.Cursor.{left}
use Rattle.rpki_der.specs.TagName.{sequence}
use Rattle.rpki_der.proofs.ComposedLaws.{all-read, inner-accepted, more-left, not-read}
use Rattle.rpki_der.proofs.ReadingLaws.{UnlessMemory-weaker}
use Rattle.rpki_c.specs.Signed.{SpellsRpki, AreRpkiParts, AreOtherParts, IsOtherSigned, IsSignedFault, signed_in}
use Rattle.rpki_c.proofs.SignedLaws.{sequence-refused, parts-refused, in-signed, no-first, inside}
use Rattle.rpki_c.proofs.signed.read_signed.Goals as goal

pub returns-in-Err-clause-reads : goal.returns-in-Err-clause-reads
returns-in-Err-clause-reads c =
    let s = c.args.octets.now in
    let e = c.in-Err.e in
    let h = rw c.from_slice-cons.ensures at c.in-Err.ensures in (
      UnlessMemory-weaker e (no-first AreOtherParts s) h.refuses,
      not-read SpellsRpki IsSignedFault s s e (sequence-refused s _ e h),
    )

pub returns-in-Err-read_parts-clause-reads : goal.returns-in-Err-read_parts-clause-reads
returns-in-Err-read_parts-clause-reads c =
    let s = c.args.octets.now in
    let e = c.in-Err-read_parts.e in
    let a = rw c.from_slice-cons.ensures at c.in-Ok.ensures in
    let h = rw c.rest.ensures at c.in-Err-read_parts.ensures.reads in (
      UnlessMemory-weaker e (inside AreOtherParts s (left c.in-Ok.contents) _ a) h.0,
      not-read SpellsRpki IsSignedFault s s e (parts-refused s (left c.in-Ok.contents) _ e a h.1),
    )

pub returns-in-Err-finish-clause-reads : goal.returns-in-Err-finish-clause-reads
returns-in-Err-finish-clause-reads c =
    let s = c.args.octets.now in
    let a = rw c.from_slice-cons.ensures at c.in-Ok.ensures in
    let h = rw (c.in-Ok-Some.field-0-is, c.rest.ensures) at c.in-Ok-Some.ensures.reads in
    let other : IsOtherSigned s → ⊥ = inside AreOtherParts s (left c.in-Ok.contents) _ a h.0 in
    let all = inner-accepted sequence true AreRpkiParts s (left c.in-Ok.contents) _ (signed_in c.in-Ok-Some.found)
    a h.1 in
    rw c.in-Err-finish.ensures.0 (other, more-left SpellsRpki IsSignedFault s _ _ all c.in-Err-finish.ensures.1)

pub returns-in-Ok-finish-clause-reads : goal.returns-in-Ok-finish-clause-reads
returns-in-Ok-finish-clause-reads c =
    let s = c.args.octets.now in
    let a = rw c.from_slice-cons.ensures at c.in-Ok.ensures in
    let h = rw (c.in-Ok-Some.field-0-is, c.rest.ensures) at c.in-Ok-Some.ensures.reads in
    let other : IsOtherSigned s → ⊥ = inside AreOtherParts s (left c.in-Ok.contents) _ a h.0 in
    let all = inner-accepted sequence true AreRpkiParts s (left c.in-Ok.contents) _ (signed_in c.in-Ok-Some.found)
    a h.1 in
    (other, all-read SpellsRpki s _ _ all c.in-Ok-finish.ensures)

pub returns-in-Ok-finish-clause-parts : goal.returns-in-Ok-finish-clause-parts
returns-in-Ok-finish-clause-parts c =
    let a = rw c.from_slice-cons.ensures at c.in-Ok.ensures in
    let h = rw (c.in-Ok-Some.field-0-is, c.rest.ensures) at c.in-Ok-Some.ensures.parts in
    in-signed c.args.octets.now (left c.in-Ok.contents) _ c.in-Ok-Some.found a.spells c.in-Ok-finish.ensures h

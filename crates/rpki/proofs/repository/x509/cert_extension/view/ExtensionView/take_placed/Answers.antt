use Rattle.std.proofs.Common.{true, refl}
use Rattle.rpki_der.specs.Prelude.{left, sequence}
use Rattle.rpki_der.proofs.ComposedLaws.{inner-accepted}
use Rattle.rpki_der.proofs.TriedLaws.{tried-refused}
use Rattle.rpki.specs.ExtensionValue.{IsExtensionContents}
use Rattle.rpki.proofs.ExtensionLaws.{can-be-written}
use Rattle.rpki.proofs.ExtensionFaultLaws.{no-sequence, no-parts}
use Rattle.rpki.proofs.ExtensionPlaceLaws.{behind-identifier, identifier-stands, content-stands}
use Rattle.rpki.proofs.repository.x509.cert_extension.view.ExtensionView.take_placed.Goals as goal

pub returns-in_err-contents-clause-reads : goal.returns-in_err-contents-clause-reads
returns-in_err-contents-clause-reads c =
    tried-refused _ _ _ _ _ _ _ c.from_residual.ensures (no-sequence _ _ _ c.in_err-contents.ensures)

pub returns-in_err-id-clause-reads : goal.returns-in_err-id-clause-reads
returns-in_err-id-clause-reads c =
    tried-refused _ _ _ _ _ _ _ c.from_residual-in_err-id.ensures
    (no-parts _ (left c.in_ok-contents.contents) _ _ c.in_ok-contents.ensures c.in_err-id.ensures.reads)

pub returns-clause-reads : goal.returns-clause-reads
returns-clause-reads c = inner-accepted sequence true IsExtensionContents _ (left c.in_ok-contents.contents) _ _
    c.in_ok-contents.ensures c.in_ok-id.ensures.reads

pub returns-clause-place : goal.returns-clause-place
returns-clause-place c =
    rw (c.from_slice-following.ensures, c.rest-all.ensures) (behind-identifier _ _ _ _ _ c.in_ok-contents.ensures.spells
    c.in_ok-id.ensures.place _ (rw (c.rest.ensures, c.rest-2.ensures) refl))

pub returns-clause-identifier : goal.returns-clause-identifier
returns-clause-identifier c = identifier-stands (place c)
  where
    place : goal.returns-clause-place
    place = returns-clause-place

pub returns-clause-content : goal.returns-clause-content
returns-clause-content c =
    let read = inner-accepted sequence true IsExtensionContents _ (left c.in_ok-contents.contents) _ _
    c.in_ok-contents.ensures c.in_ok-id.ensures.reads in
    content-stands read.spells

pub returns-clause-writable : goal.returns-clause-writable
returns-clause-writable c =
    let read = inner-accepted sequence true IsExtensionContents _ (left c.in_ok-contents.contents) _ _
    c.in_ok-contents.ensures c.in_ok-id.ensures.reads in
    can-be-written _ _ read.spells.spelled

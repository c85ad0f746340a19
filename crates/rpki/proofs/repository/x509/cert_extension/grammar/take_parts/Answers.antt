use Rattle.std.proofs.Common.{ℕ, Bool, false, List, inr, sym, subst}
use Rattle.rpki_der.specs.declared.error.DecodeError.{DecodeError}
use Rattle.rpki_der.specs.Prelude.{left, boolean, SpellsLeaf, HasTag, IsLeafFault, IsBoolean, AtPart, Later}
use Rattle.rpki_der.proofs.ReadingLaws.{UnlessMemory-weaker, UnlessMemory-from}
use Rattle.rpki_der.proofs.TriedLaws.{tried-nothing}
use Rattle.rpki.specs.ExtensionValue.{extension_parts, IsExtensionContents}
use Rattle.rpki.specs.ExtensionFault.{content, extension_fields}
use Rattle.rpki.proofs.ExtensionFaultLaws.{behind-optional}
use Rattle.rpki.proofs.ExtensionLaws.{no-identifier, bad-flag, no-octets, more-following, parts-read, one-contents}
use Rattle.rpki.proofs.repository.x509.cert_extension.grammar.take_parts.Goals as goal

abbrev B : List ℕ → Type 0
B = HasTag boolean

abbrev F : Bool → List ℕ → Type 0
F = SpellsLeaf boolean false IsBoolean

abbrev N : List ℕ → DecodeError → Type 0
N = IsLeafFault boolean false IsBoolean

pub returns-in_err-identifier-clause-reads : goal.returns-in_err-identifier-clause-reads
returns-in_err-identifier-clause-reads c =
    let s = left c.args.contents in
    let e = c.in_err-identifier.field-0.0 in
    let h = c.in_err-identifier.ensures in
    tried-nothing _ IsExtensionContents extension_fields.fault s e _ c.from_residual.ensures
    (UnlessMemory-weaker e (no-identifier s) h.refuses, AtPart h.refuses h.kind)

pub returns-in_err-take_opt_bool-clause-reads : goal.returns-in_err-take_opt_bool-clause-reads
returns-in_err-take_opt_bool-clause-reads c =
    let s = left c.args.contents in
    let e = c.in_err-take_opt_bool.field-0.0 in
    let h = c.in_err-take_opt_bool.ensures in
    tried-nothing _ IsExtensionContents extension_fields.fault s e _ c.from_residual-in_err-take_opt_bool.ensures (
      UnlessMemory-weaker e (bad-flag s _ _ c.in_ok-identifier.ensures h.0) h.1.refuses,
      Later
          c.in_ok-identifier.identifier.0.now _ c.in_ok-identifier.ensures (inr (h.0, AtPart h.1.refuses h.1.kind)),
    )

pub returns-in_err-octets-clause-reads : goal.returns-in_err-octets-clause-reads
returns-in_err-octets-clause-reads c =
    let s = left c.args.contents in
    let e = c.in_err-octets.field-0.0 in
    let h = c.in_err-octets.ensures in
    tried-nothing _ IsExtensionContents extension_fields.fault s e _ c.from_residual-in_err-octets.ensures (
      UnlessMemory-weaker e (no-octets s _ _ _ c.in_ok-take_opt_bool.field-0 c.in_ok-identifier.ensures
          c.in_ok-take_opt_bool.ensures) h.refuses,
      Later c.in_ok-identifier.identifier.0.now _ c.in_ok-identifier.ensures
          (behind-optional B (λ b. b) F N content.fault _ _ c.in_ok-take_opt_bool.field-0 e
          c.in_ok-take_opt_bool.ensures (AtPart h.refuses h.kind)),
    )

pub returns-clause-reads : goal.returns-clause-reads
returns-clause-reads c =
    let s = left c.args.contents in
    let o = c.in_ok-octets in
    let read = parts-read s _ _ _ _ _ c.in_ok-take_opt_bool.field-0 c.in_ok-identifier.ensures
    c.in_ok-take_opt_bool.ensures o.ensures c.in_ok-finish.ensures in
    let h = subst (λ (b : Bool). IsExtensionContents
    (extension_parts c.in_ok-identifier.identifier.0.now b o.octets.now) s) (sym c.unwrap_or-critical.ensures) read in
    (h, λ w k. one-contents _ w s h k)

pub returns-in_err-finish-clause-reads : goal.returns-in_err-finish-clause-reads
returns-in_err-finish-clause-reads c =
    let s = left c.args.contents in
    let e = c.in_err-finish.field-0.0 in
    let h = c.in_err-finish.ensures in
    tried-nothing _ IsExtensionContents extension_fields.fault s e _ c.from_residual-in_err-finish.ensures (
      UnlessMemory-from e (more-following s _ _ _ _ _ c.in_ok-take_opt_bool.field-0 c.in_ok-identifier.ensures
          c.in_ok-take_opt_bool.ensures c.in_ok-octets.ensures h.1),
      Later c.in_ok-identifier.identifier.0.now _ c.in_ok-identifier.ensures
          (behind-optional B (λ b. b) F N content.fault _ _ c.in_ok-take_opt_bool.field-0 e
          c.in_ok-take_opt_bool.ensures (Later c.in_ok-octets.octets.now _ c.in_ok-octets.ensures (h.1, h.0))),
    )

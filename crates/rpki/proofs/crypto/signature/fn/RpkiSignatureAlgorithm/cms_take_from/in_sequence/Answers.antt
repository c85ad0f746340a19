use Rattle.std.proofs.Common.{refl, inl, inr}
use Rattle.rpki_der.specs.Prelude.{left, AtPart, Later}
use Rattle.rpki_der.proofs.ReadingLaws.{UnlessMemory-weaker}
use Rattle.rpki_der.proofs.FirstFaultLaws.{tried-parts}
use Rattle.rpki.specs.AlgorithmFault.{cms_parts}
use Rattle.rpki.specs.SignatureNames.{IsCmsName, IsCmsContents}
use Rattle.rpki.proofs.FormatLaws.{no-cms, other-cms, cms-all}
use Rattle.rpki.proofs.PartLaws.{none-unknown, known-named}
use Rattle.rpki.proofs.crypto.signature.fn.RpkiSignatureAlgorithm.cms_take_from.in_sequence.Goals as goal

pub returns-in_err-identifier : goal.returns-in_err-identifier
returns-in_err-identifier c =
    let s = left c.args.contents.now in
    let e = c.in_err-identifier.field-0.0 in
    let h = c.in_err-identifier.ensures in
    record {
      reads = tried-parts (λ b. b) IsCmsContents cms_parts.fault s _ e _ c.from_residual.ensures
          (UnlessMemory-weaker e (no-cms s) h.refuses, AtPart h.refuses h.kind);
      unknown = λ u. absurd (none-unknown IsCmsName s _ e h u);
    }

pub returns-then-is_cms_name : goal.returns-then-is_cms_name
returns-then-is_cms_name c =
    let s = left c.args.contents.now in
    let a = c.in_ok-identifier.ensures in
    let known = c.is_cms_name.ensures.0 c.if-is_cms_name.true in
    record {
      reads = cms-all s _ _ _ _ a known c.take_null_or_nothing.ensures;
      unknown = λ u. absurd
          (known-named IsCmsName s _ _ a known u);
    }

pub returns-else-is_cms_name : goal.returns-else-is_cms_name
returns-else-is_cms_name c =
    let none : IsCmsName c.in_ok-identifier.identifier.0.now
    → ⊥ = λ e. let h = c.is_cms_name.ensures.1 e in let k = c.if-is_cms_name.false in cc in
    rw c.content.ensures (record {
      reads = (
        other-cms (left c.args.contents.now) _ _ c.in_ok-identifier.ensures (λ e. none (inl e)) (λ e. none (inr e)),
        Later c.in_ok-identifier.identifier.0.now _ c.in_ok-identifier.ensures (inr (none, refl)),
      );
      unknown = λ u. refl;
    })

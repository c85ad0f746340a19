use Rattle.std.proofs.Common.{rules, codes, Ok, Err, true}
use Rattle.std.proofs.lemmas.Result.{err_from_is_err_and}
use Rattle.rpki_der.specs.TagName.{sequence}
use Rattle.rpki_der.proofs.FirstFaultLaws.{read-parts-inside}
use Rattle.rpki.specs.AlgorithmFault.{cms_parts}
use Rattle.rpki_der.proofs.TriedLaws.{tried-refused}
use Rattle.rpki.specs.SignatureNames.{IsCmsContents, IsCmsName}
use Rattle.rpki.proofs.PartLaws.{unknown-inside}
use Rattle.rpki.proofs.crypto.signature.RpkiSignatureAlgorithm.cms_take_from.Goals as goal

pub returns-in_err-has_parameters-clause-reads : goal.returns-in_err-has_parameters-clause-reads
returns-in_err-has_parameters-clause-reads c =
    let e = c.in_err-has_parameters.field-0.0 in
    tried-refused _ _ _ _ _ _ _ c.from_residual.ensures
    (read-parts-inside (λ b. b) sequence true IsCmsContents cms_parts.fault _ (λ b a x h. search rules) _ _ (Err e)
    c.in_err-has_parameters.ensures)

pub returns-in_err-has_parameters-clause-unknown : goal.returns-in_err-has_parameters-clause-unknown
returns-in_err-has_parameters-clause-unknown c =
    let p = err_from_is_err_and c.from_residual.result c.from_residual.ensures.1 in
    let e = c.in_err-has_parameters.field-0.0 in
    rw (p.1, p.2) (unknown-inside IsCmsName (codes "invalid signature algorithm") _ (λ b a x h. search rules) _ _
    (Err e) c.in_err-has_parameters.ensures)

pub returns-clause-reads : goal.returns-clause-reads
returns-clause-reads c =
    read-parts-inside (λ b. b) sequence true IsCmsContents cms_parts.fault _ (λ b a x h. search rules) _ _
    (Ok c.in_ok-has_parameters.has_parameters) c.in_ok-has_parameters.ensures

pub returns-clause-unknown : goal.returns-clause-unknown
returns-clause-unknown c =
    unknown-inside IsCmsName (codes "invalid signature algorithm") _ (λ b a x h. search rules) _ _
    (Ok c.in_ok-has_parameters.has_parameters) c.in_ok-has_parameters.ensures

use Rattle.std.proofs.Common.{Bool, ap, refl, rules, sym, subst, ◌∙◌}
use Rattle.rpki_der.specs.declared.error.DecodeError.{DecodeError}
use Rattle.rpki_der.specs.Cursor.{left}
use Rattle.rpki_der.specs.Reading.{Refusal}
use Rattle.rpki_der.proofs.TriedLaws.{tried-refused}
use Rattle.rpki.specs.Signature.{SignatureParts}
use Rattle.rpki_crl.specs.Crl.{crl, list_of}
use Rattle.rpki_crl.proofs.ListInLaws.{unsigned, not-list, more-signed, differ, is-list, no-difference}
use Rattle.rpki_crl.proofs.crl.Crl.take_from.Goals as goal

pub returns-in_err-signed_data : goal.returns-in_err-signed_data
returns-in_err-signed_data g c =
    tried-refused _ _ _ _ _ _ _ c.from_residual.ensures
    (unsigned _ _ c.in_err-signed_data.field-0.0 c.in_err-signed_data.ensures)

pub returns-in_err-tbs : goal.returns-in_err-tbs
returns-in_err-tbs g c =
    let h = rw (c.cursor-signed.ensures, c.data-data.ensures.slice) at c.in_err-tbs.ensures in
    tried-refused _ _ _ _ _ _ _ c.from_residual-in_err-tbs.ensures
    (not-list _ _ c.in_ok-signed_data.signed_data c.in_ok-signed_data.ensures _ c.in_err-tbs.field-0.0 h)

pub returns-in_err-finish : goal.returns-in_err-finish
returns-in_err-finish g c =
    let b = rw (c.cursor-signed.ensures, c.data-data.ensures.slice) at c.in_ok-tbs.ensures in
    let e = c.in_err-finish.field-0.0 in
    let s = left c.args.cons.now in
    tried-refused _ _ _ _ _ e _ c.from_residual-in_err-finish.ensures
    (subst (λ (d : DecodeError). Refusal crl.spells crl.fault s s d) (sym c.in_err-finish.ensures.0)
    (more-signed _ _ c.in_ok-signed_data.signed_data c.in_ok-signed_data.ensures (list_of c.in_ok-tbs.tbs) _ b
    c.in_err-finish.ensures.1))

pub returns-then-has_parameters : goal.returns-then-has_parameters
returns-then-has_parameters g c =
    let b = rw (c.cursor-signed.ensures, c.data-data.ensures.slice) at c.in_ok-tbs.ensures in
    let outer = c.algorithm.ensures ∙ ap (λ (s : SignatureParts Bool). s.algorithm) c.signature.ensures in
    differ _ _ c.in_ok-signed_data.signed_data c.in_ok-signed_data.ensures (list_of c.in_ok-tbs.tbs) _ b
    c.in_ok-finish.ensures _
    (λ e.
    let same = c.has_parameters.ensures ∙ e ∙ sym outer ∙ sym c.has_parameters-2.ensures in
    no-difference _ _ same c.if-has_parameters.true)
    (rw c.content.ensures refl)

pub returns : goal.returns
returns g c =
    let b = rw (c.cursor-signed.ensures, c.data-data.ensures.slice) at c.in_ok-tbs.ensures in
    let outer = c.algorithm.ensures ∙ ap (λ (s : SignatureParts Bool). s.algorithm) c.signature.ensures in
    is-list _ _ c.in_ok-signed_data.signed_data c.in_ok-signed_data.ensures (list_of c.in_ok-tbs.tbs) _ b
    c.in_ok-finish.ensures (search (outer, rules))

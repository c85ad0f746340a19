use Rattle.std.proofs.Common.{sym, subst}
use Rattle.rpki_der.specs.declared.error.DecodeError.{DecodeError}
use Rattle.rpki_der.specs.Cursor.{left}
use Rattle.rpki_der.specs.Reading.{Refusal}
use Rattle.rpki_der.proofs.TriedLaws.{tried-refused}
use Rattle.rpki_request.specs.Request.{request, info_of}
use Rattle.rpki_request.proofs.InfoInLaws.{unsigned, not-info, more-signed, is-info}
use Rattle.rpki_request.proofs.csr.Csr.take_from.Goals as goal

pub returns-in_err-signed_data : goal.returns-in_err-signed_data
returns-in_err-signed_data g c =
    tried-refused _ _ _ _ _ _ _ c.from_residual.ensures
    (unsigned _ _ c.in_err-signed_data.field-0.0 c.in_err-signed_data.ensures)

pub returns-in_err-info : goal.returns-in_err-info
returns-in_err-info g c =
    let h = rw (c.cursor-signed.ensures, c.data-data.ensures.slice) at c.in_err-info.ensures in
    tried-refused _ _ _ _ _ _ _ c.from_residual-in_err-info.ensures
    (not-info _ _ c.in_ok-signed_data.signed_data c.in_ok-signed_data.ensures _ c.in_err-info.field-0.0 h)

pub returns-in_err-finish : goal.returns-in_err-finish
returns-in_err-finish g c =
    let b = rw (c.cursor-signed.ensures, c.data-data.ensures.slice) at c.in_ok-info.ensures in
    let e = c.in_err-finish.field-0.0 in
    let s = left c.args.cons.now in
    tried-refused _ _ _ _ _ e _ c.from_residual-in_err-finish.ensures
    (subst (λ (d : DecodeError). Refusal request.spells request.fault s s d) (sym c.in_err-finish.ensures.0)
    (more-signed _ _ c.in_ok-signed_data.signed_data c.in_ok-signed_data.ensures (info_of c.in_ok-info.info) _ b
    c.in_err-finish.ensures.1))

pub returns : goal.returns
returns g c =
    let b = rw (c.cursor-signed.ensures, c.data-data.ensures.slice) at c.in_ok-info.ensures in
    is-info _ _ c.in_ok-signed_data.signed_data c.in_ok-signed_data.ensures (info_of c.in_ok-info.info) _ b
    c.in_ok-finish.ensures

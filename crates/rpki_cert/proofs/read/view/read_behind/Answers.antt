use Rattle.std.proofs.Common.{◌∙◌, refl, sym, subst}
use Rattle.std.proofs.lemmas.Bool.{iff_false}
use Rattle.rpki_der.specs.Members.{IsValue}
use Rattle.rpki_der.proofs.MembersLaws.{value-accepted}
use Rattle.rpki_cert.specs.View.AreBehindWrong.{Behind}
use Rattle.rpki_cert.specs.View.AreContentsWrong.{InParts}
use Rattle.rpki_cert.specs.View.FirstWrong.{Later}
use Rattle.rpki_cert.proofs.TbsValueLaws.{tbs-value}
use Rattle.rpki_cert.proofs.ViewLaws.{in-signed, differ, cert-read}
use Rattle.rpki_cert.proofs.read.view.read_behind.Goals as goal

pub returns-in-Err-clause-err : goal.returns-in-Err-clause-err
returns-in-Err-clause-err c = λ one. InParts
    (Later _ _ (value-accepted c.args.signed.now _ one) (Behind _ c.in-Err.ensures.err c.of_signed.ensures))

pub returns-in-Err-read_tbs-clause-err : goal.returns-in-Err-read_tbs-clause-err
returns-in-Err-read_tbs-clause-err c = λ one.
    let e = c.in-Ok.ensures in
    in-signed _ _ _ c.in-Ok.parts c.in-Err-read_tbs.wrong (e.ok one) (c.from_slice.ensures ∙ sym e.signed)
    c.in-Err-read_tbs.ensures.err

pub returns-then-not-is_same-clause-err : goal.returns-then-not-is_same-clause-err
returns-then-not-is_same-clause-err c = λ one.
    let e = c.in-Ok.ensures in
    differ _ _ _ c.in-Ok.parts _ (e.ok one) (c.from_slice.ensures ∙ sym e.signed) c.in-Ok-read_tbs.tbs
    c.in-Ok-read_tbs.ensures.ok (iff_false c.is_same.ensures c.if-not-is_same.true) refl (rw c.content.ensures refl)

pub returns-else-not-is_same-clause-ok : goal.returns-else-not-is_same-clause-ok
returns-else-not-is_same-clause-ok c = λ s h.
    let e = c.in-Ok.ensures in
    let t = c.in-Ok-read_tbs.ensures.ok in
    let one = subst IsValue c.from_slice.ensures (tbs-value t.0 _ t.1) in
    cert-read s _ _ _ h (e.ok one) (c.from_slice.ensures ∙ sym e.signed) t c.in-Ok-read_tbs.ensures.one
    (c.is_same.ensures.0 c.if-not-is_same.false)

use Rattle.std.proofs.Common.{◌∙◌, refl, sym, subst}
use Rattle.std.proofs.lemmas.Bool.{iff_false}
use Rattle.rpki_der.specs.Members.{IsValue}
use Rattle.rpki_der.proofs.MembersLaws.{value-accepted}
use Rattle.rpki_crl.specs.CrlView.IsCrlError.{BehindSigned}
use Rattle.rpki_crl.proofs.ListValueLaws.{list-value}
use Rattle.rpki_crl.proofs.CrlViewLaws.{in-signed, differ, list-read}
use Rattle.rpki_crl.proofs.crl_view.read_behind.Goals as goal

pub returns-in-Err-clause-err : goal.returns-in-Err-clause-err
returns-in-Err-clause-err c = λ s h one.
    BehindSigned _ _ _ c.in-Err.wrong h (value-accepted c.args.signed.now _ one) c.in-Err.ensures.err
    c.of_signed.ensures

pub returns-in-Err-read_tbs-clause-err : goal.returns-in-Err-read_tbs-clause-err
returns-in-Err-read_tbs-clause-err c = λ s h one.
    let e = c.in-Ok.ensures in
    in-signed s _ _ _ _ h (e.ok one) (c.from_slice.ensures ∙ sym e.signed) c.in-Err-read_tbs.ensures.err

pub returns-then-not-is_same-clause-err : goal.returns-then-not-is_same-clause-err
returns-then-not-is_same-clause-err c = λ s h one.
    let e = c.in-Ok.ensures in
    differ s _ _ _ c.in-Ok-read_tbs.tbs h (e.ok one) (c.from_slice.ensures ∙ sym e.signed)
    c.in-Ok-read_tbs.ensures.ok (iff_false c.is_same.ensures c.if-not-is_same.true) _ (rw c.content.ensures refl)

pub returns-clause-ok : goal.returns-clause-ok
returns-clause-ok c = λ s h.
    let e = c.in-Ok.ensures in
    let t = c.in-Ok-read_tbs.ensures.ok in
    let one = subst IsValue c.from_slice.ensures (list-value t.0 _ t.1) in
    list-read s _ _ _ h (e.ok one) (c.from_slice.ensures ∙ sym e.signed) t
    (c.is_same.ensures.0 c.if-not-is_same.false)

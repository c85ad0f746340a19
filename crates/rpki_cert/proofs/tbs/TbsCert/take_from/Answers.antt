use Rattle.std.proofs.Common.{sym, subst}
use Rattle.rpki_der.specs.Cursor.{left}
use Rattle.rpki_der.specs.Reading.{Accepts}
use Rattle.rpki_cert.specs.declared.read.cert_part.CertPart.{CertPart}
use Rattle.rpki_cert.specs.Cert.{TbsParts, SpellsTbs}
use Rattle.rpki_cert.specs.CertError.{cert_error}
use Rattle.rpki_cert.specs.CertFault.{IsFrontTbsError}
use Rattle.rpki_cert.specs.View.FirstWrong.{Later}
use Rattle.rpki_cert.proofs.CertLaws.{unframed, refused-front, unkept-front, tbs-at, tbs-accepted, tbs-found}
use Rattle.rpki_cert.proofs.CertLaws.{front-alone}
use Rattle.rpki_x509.proofs.NestedLaws.{front-section}
use Rattle.rpki_cert.proofs.OneLaws.{tbs-one}
use Rattle.rpki_cert.proofs.WrongLaws.{front-tbs-wrong}
use Rattle.rpki_cert.proofs.tbs.TbsCert.take_from.Goals as goal

pub returns-in-Err-clause-reads : goal.returns-in-Err-clause-reads
returns-in-Err-clause-reads g c =
    refused-front SpellsTbs IsFrontTbsError front-tbs-wrong _ (cert_error CertPart.Tbs c.in-Err.error)
    (unframed CertPart.Tbs _ _ _ _ c.in-Err.ensures)

pub returns-in-Err-read_fields-clause-reads : goal.returns-in-Err-read_fields-clause-reads
returns-in-Err-read_fields-clause-reads g c =
    refused-front SpellsTbs IsFrontTbsError front-tbs-wrong _ c.in-Err-read_fields.wrong
    (Later _ _ c.in-Ok.ensures c.in-Err-read_fields.ensures.err)

pub returns-in-Err-read_fields-clause-part : goal.returns-in-Err-read_fields-clause-part
returns-in-Err-read_fields-clause-part g c = λ other. Later _ _ c.in-Ok.ensures c.in-Err-read_fields.ensures.err

pub before-within-requires-clause-stands : goal.before-within-requires-clause-stands
before-within-requires-clause-stands g c =
    let a = c.in-Ok.ensures in
    front-alone _ a.spells.front _ _ _ _ a.spells.parts c.rest-all.ensures c.rest-following.ensures
    (front-section _ a.spells.front _ _ _ _ a.spells.parts c.rest-all.ensures c.rest-following.ensures
    c.before-value.ensures).octets

pub keep-requires-clause-stands : goal.keep-requires-clause-stands
keep-requires-clause-stands g c =
    let a = c.in-Ok.ensures in
    let (t, h, k) = c.in-Ok-read_fields.ensures.ok in (
      t,
      tbs-at _ _ _ _ t a h k _ (front-section _ a.spells.front _ _ _ _ a.spells.parts c.rest-all.ensures
          c.rest-following.ensures c.before-value.ensures).octets,
    )

pub returns-in-Ok-keep-clause-reads : goal.returns-in-Ok-keep-clause-reads
returns-in-Ok-keep-clause-reads g c =
    let a = c.in-Ok.ensures in
    let (t, h, k) = c.in-Ok-read_fields.ensures.ok in
    let front = front-section _ a.spells.front _ _ _ _ a.spells.parts c.rest-all.ensures c.rest-following.ensures
    c.before-value.ensures in
    let same = c.in-Ok-keep.ensures.ok t (tbs-at _ _ _ _ t a h k _ front.octets) in
    subst (λ (u : TbsParts). Accepts SpellsTbs (left c.args.cons.now) u (left c.take_sequence.new.self)) (sym same)
    (tbs-accepted _ _ _ t a h (tbs-one _ _ a.spells.spelled c.in-Ok-read_fields.ensures.one))

pub returns-in-Err-keep-clause-reads : goal.returns-in-Err-keep-clause-reads
returns-in-Err-keep-clause-reads g c =
    let (t, h, k) = c.in-Ok-read_fields.ensures.ok in
    unkept-front SpellsTbs IsFrontTbsError front-tbs-wrong _ _ t _ (tbs-found _ _ _ t c.in-Ok.ensures h)
    c.in-Err-keep.ensures.err

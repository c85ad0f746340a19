use Rattle.std.proofs.Common.{subst}
use Rattle.rpki_der.specs.declared.error.DecodeError.{DecodeError}
use Rattle.rpki_der.specs.Cursor.{left}
use Rattle.rpki_der.proofs.InsideLaws.{unless-memory}
use Rattle.rpki_request.specs.Request.{nameless}
use Rattle.rpki_request.proofs.SubjectLaws.{nameless-never, none-accepted, name-accepted, subject-refused}
use Rattle.rpki_request.proofs.info.take_subject.Goals as goal

pub returns-in-Ok : goal.returns-in-Ok
returns-in-Ok g c = none-accepted _ _ c.in-Ok.ensures

pub returns-in-Ok-take_from : goal.returns-in-Ok-take_from
returns-in-Ok-take_from g c = name-accepted _ _ _ c.in-Ok-take_from.ensures

pub returns-in-Err-take_from : goal.returns-in-Err-take_from
returns-in-Err-take_from g c =
    let s = left c.args.cons.now in
    let none = unless-memory c.in-Err.field-0
    (λ z. nameless-never s (subst (λ (d : DecodeError). nameless.fault s d) z c.in-Err.ensures.kind))
    c.in-Err.ensures.refuses in
    subject-refused s _ c.in-Err-take_from.e none c.in-Err-take_from.ensures

use Rattle.rpki_der.proofs.FormatLaws.{tried, failed, given, first, last, after, all, and}
use Rattle.rpki_der.proofs.KeepLaws.{held-after}
use Rattle.rpki_request.specs.Request.{fields_in, fields}
use Rattle.rpki_request.proofs.info.fn.RequestInfo.take_from.in_sequence_with.Goals as goal

pub returns-in_err-skip_u8_if : goal.returns-in_err-skip_u8_if
returns-in_err-skip_u8_if g c = tried fields_in fields _ _ c.from_residual.ensures (first c.in_err-skip_u8_if.ensures)

pub returns-in_err-subject : goal.returns-in_err-subject
returns-in_err-subject g c =
    tried fields_in fields _ _ c.from_residual-in_err-subject.ensures
    (after c.in_ok-skip_u8_if.ensures (first c.in_err-subject.ensures))

pub returns-in_err-key : goal.returns-in_err-key
returns-in_err-key g c =
    tried fields_in fields _ _ c.from_residual-in_err-key.ensures
    (after c.in_ok-skip_u8_if.ensures (after c.in_ok-subject.ensures (first c.in_err-key.ensures)))

pub returns-in-Err : goal.returns-in-Err
returns-in-Err g c =
    failed (after c.in_ok-skip_u8_if.ensures (after c.in_ok-subject.ensures (after c.in_ok-key.ensures
    (last c.in-Err.ensures))))

pub returns : goal.returns
returns g c =
    given (and c.in_ok-skip_u8_if.ensures (and c.in_ok-subject.ensures (and c.in_ok-key.ensures
    (all c.in-Ok.ensures))))

pub take_subject-requires : goal.take_subject-requires
take_subject-requires g c =
    held-after g.K.Keep.holds g.met.K.Keep.rest_held c.args.keep c.in_ok-skip_u8_if.ensures c.requires

pub take_from-requires : goal.take_from-requires
take_from-requires g c =
    let holds = g.K.Keep.holds in
    let law = g.met.K.Keep.rest_held in
    let version = held-after holds law c.args.keep c.in_ok-skip_u8_if.ensures c.requires in
    held-after holds law c.args.keep c.in_ok-subject.ensures version

pub take_attributes-requires : goal.take_attributes-requires
take_attributes-requires g c =
    let holds = g.K.Keep.holds in
    let law = g.met.K.Keep.rest_held in
    let version = held-after holds law c.args.keep c.in_ok-skip_u8_if.ensures c.requires in
    let subject = held-after holds law c.args.keep c.in_ok-subject.ensures version in
    held-after holds law c.args.keep c.in_ok-key.ensures subject

use Rattle.rpki_der.proofs.TriedLaws.{tried-refused}
use Rattle.rpki_fields.proofs.object.fn.rpki_certificate.whole_with.Goals as goal

pub returns-in_err-take_from : goal.returns-in_err-take_from
returns-in_err-take_from c =
    tried-refused _ _ _ _ _ c.in_err-take_from.field-0.0.error _ c.from_residual.ensures
    c.in_err-take_from.ensures.reads

pub returns : goal.returns
returns c = c.in_ok-take_from.ensures.reads

use Rattle.rpki_der.specs.TagName.{sequence}
use Rattle.rpki_der.proofs.FormatLaws.{takes-around}
use Rattle.rpki_contents.specs.Roa.{fields_of, fields}
use Rattle.rpki_contents.proofs.roa.RouteOriginAttestation.take_from.Goals as goal

pub returns : goal.returns
returns c =
    takes-around fields_of sequence (fields c.args.strict) _ (λ b a x h. rw (h.shows, h.leaves) at h.met) _ _ _
    c.in_sequence.ensures

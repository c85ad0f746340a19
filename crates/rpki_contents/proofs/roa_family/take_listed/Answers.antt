use Rattle.rpki_der.specs.TagName.{sequence}
use Rattle.rpki_der.proofs.FormatLaws.{takes-around}
use Rattle.rpki_resources.specs.Address.{width}
use Rattle.rpki_contents.specs.RoaAddress.{each_address}
use Rattle.rpki_contents.proofs.roa_family.take_listed.Goals as goal

pub returns : goal.returns
returns c =
    takes-around (λ v. v.items) sequence (each_address (width c.args.family)) _
    (λ b a x h. rw (h.shows, h.leaves) at h.met) _ _ _
    c.in_sequence.ensures

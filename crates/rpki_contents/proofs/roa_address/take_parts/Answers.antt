use Rattle.std.proofs.Common.{rules}
use Rattle.rpki_der.specs.TagName.{sequence}
use Rattle.rpki_der.proofs.FormatLaws.{takes-around}
use Rattle.rpki_resources.specs.Address.{width}
use Rattle.rpki_contents.specs.RoaAddress.{parts_of, address_parts}
use Rattle.rpki_contents.proofs.roa_address.take_parts.Goals as goal

pub returns : goal.returns
returns c =
    takes-around parts_of sequence (address_parts (width c.args.family)) _ (λ b a x h. search rules) _ _ _
    c.in_sequence.ensures

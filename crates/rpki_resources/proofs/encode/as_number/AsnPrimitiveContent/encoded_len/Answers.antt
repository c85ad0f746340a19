use Rattle.std.proofs.Common.{sym, ◌∙◌}
use Rattle.rpki_resources.specs.Encoded.{integer_size}
use Rattle.rpki_resources.proofs.NumberOctetsLaws.{octets-length}
use Rattle.rpki_resources.proofs.encode.as_number.AsnPrimitiveContent.encoded_len.Goals as goal

pub returns : goal.returns
returns c = c.from.ensures ∙ c.integer_size_of.ensures
    ∙ sym (octets-length (integer_size c.args.self.now.0) c.args.self.now.0)

use Rattle.std.proofs.Common.{◌∙◌}
use Rattle.rpki_objects.specs.EncodedObject.{built_of}
use Rattle.rpki_objects.proofs.ObjectWritingLaws.{signer-fit}
use Rattle.rpki_objects.proofs.encode.DataContents.encode_signers.Goals as goal

pub returns-clause-short : goal.returns-clause-short
returns-clause-short c =
    rw (c.new-3.ensures ∙ (c.new-2.ensures ∙ c.new.ensures))
    (signer-fit (built_of c.self.inside.parts.now) c.self.invariant)

use Rattle.std.proofs.Common.{subst, ◌∙◌}
use Rattle.rpki_der.specs.Prelude.{set}
use Rattle.rpki_attributes.specs.EncodedAttributes.{CanWriteAttributes}
use Rattle.rpki_attributes.proofs.AttributesWritingLaws.{attributes-fit}
use Rattle.rpki_attributes.proofs.AttributesReadLaws.{message-is}
use Rattle.rpki_attributes.proofs.encode.AttributesBuilder.encode_message.Goals as goal

pub returns-clause-fits : goal.returns-clause-fits
returns-clause-fits c =
    let h = subst CanWriteAttributes c.self.view_is c.self.invariant in
    let fit = attributes-fit c.args.self.now h in
    rw (c.new.ensures ∙ c.of_values.ensures ∙ c.self.view_is) (fit.0, fit.1 set)

pub returns-clause-message : goal.returns-clause-message
returns-clause-message c = message-is c.args.self.now

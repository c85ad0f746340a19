use Rattle.std.proofs.Common.{subst, ◌∙◌}
use Rattle.rpki_attributes.specs.SignedAttributes.{attributes_tag}
use Rattle.rpki_attributes.specs.EncodedAttributes.{CanWriteAttributes}
use Rattle.rpki_attributes.proofs.AttributesWritingLaws.{attributes-fit}
use Rattle.rpki_attributes.proofs.AttributesReadLaws.{attributes-back}
use Rattle.rpki_attributes.proofs.encode.AttributesBuilder.encode.Goals as goal

pub returns-clause-fits : goal.returns-clause-fits
returns-clause-fits c =
    let h = subst CanWriteAttributes c.self.view_is c.self.invariant in
    let fit = attributes-fit c.args.self.now h in
    rw (c.new.ensures ∙ c.of_values.ensures ∙ c.self.view_is) (fit.0, fit.1 attributes_tag)

pub returns-clause-read_back : goal.returns-clause-read_back
returns-clause-read_back c =
    attributes-back c.args.self.now (subst CanWriteAttributes c.self.view_is c.self.invariant)

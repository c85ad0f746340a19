use Rattle.std.proofs.Common.{true}
use Rattle.rpki_der.specs.TagName.{sequence}
use Rattle.rpki_cert.specs.ExtensionContent.{ArePurposes, SpellsPurposes}
use Rattle.rpki_cert.proofs.GatherLaws.{leaf-all, leaf-none}
use Rattle.rpki_x509.proofs.TriedLaws.{tried-all}
use Rattle.rpki_cert.proofs.extension.purposes.read_purposes.Goals as goal

pub returns-in_err-contents-clause-gives : goal.returns-in_err-contents-clause-gives
returns-in_err-contents-clause-gives c = tried-all (λ b. b) SpellsPurposes _ _ _ c.from_residual.ensures
    (leaf-none sequence true ArePurposes _ c.in_err-contents.ensures.gives)

pub returns-clause-gives : goal.returns-clause-gives
returns-clause-gives c = leaf-all sequence true ArePurposes _ (λ b. b) _ c.purposes_in.result
    c.in_ok-contents.ensures.gives c.purposes_in.ensures.gives

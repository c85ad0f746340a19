use Rattle.std.proofs.Common.{arith, rules}
use Rattle.std.proofs.lemmas.Grind.{common_steps}
use Rattle.rpki_contents.proofs.AspaWritingLaws.{aspa-short, aspa-back}
use Rattle.rpki_contents.proofs.aspa.AsProviderAttestation.encode_ref.Goals as goal

pub returns-clause-short : goal.returns-clause-short
returns-clause-short c =
    aspa-short c.args.self.now _ c.new-3.result.1.content.0 _ _ (search rules) (grind (arith, common_steps))

pub returns-clause-read_back : goal.returns-clause-read_back
returns-clause-read_back c = aspa-back c.args.self.now c.providers.ensures.legal

use Rattle.rpki_der.specs.Members.{IsValue}
use Rattle.rpki.proofs.SignedLaws.{reads-back, same-iff}
use Rattle.rpki.proofs.repository.x509.signed_data.SignedData.encode_ref.Goals as goal

pub returns-clause-read_back : goal.returns-clause-read_back
returns-clause-read_back g c =
    let algorithm = g.Alg.SignatureAlgorithm in
    let laws = g.met.Alg.SignatureAlgorithm in
    let value : IsValue c.args.self.now.signed = rw (← c.self.view_is) c.self.invariant in
    λ short. reads-back algorithm.spells algorithm.written algorithm.norm c.args.self.now value
    (laws.written_spells c.args.self.now.algorithm) short

pub returns-clause-same : goal.returns-clause-same
returns-clause-same g c =
    let algorithm = g.Alg.SignatureAlgorithm in
    let laws = g.met.Alg.SignatureAlgorithm in
    let value : IsValue c.args.self.now.signed = rw (← c.self.view_is) c.self.invariant in
    λ other value' short short'. same-iff algorithm.spells algorithm.written algorithm.norm c.args.self.now other
    laws.written_spells laws.spells_one laws.spelled_value laws.written_norm value value' short short'

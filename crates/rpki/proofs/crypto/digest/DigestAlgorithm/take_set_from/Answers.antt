use Rattle.std.proofs.Common.{rules, true}
use Rattle.rpki_der.specs.Prelude.{set, FirstFault, IsEndFault}
use Rattle.rpki_der.proofs.FirstFaultLaws.{read-parts-inside, reads-one-part}
use Rattle.rpki.specs.Oids.{sha256}
use Rattle.rpki.specs.Digest.{SpellsDigest}
use Rattle.rpki.specs.AlgorithmFault.{algorithm}
use Rattle.rpki.proofs.crypto.digest.DigestAlgorithm.take_set_from.Goals as goal

pub returns : goal.returns
returns c =
    let K = (algorithm sha256).fault in
    read-parts-inside (λ d. tt) set true SpellsDigest (FirstFault SpellsDigest K (λ d. IsEndFault)) _
    (λ b a x h. reads-one-part (λ d. tt) SpellsDigest K _ _ x (search rules)) _ _ _ c.in_set.ensures

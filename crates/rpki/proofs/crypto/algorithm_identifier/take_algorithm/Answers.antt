use Rattle.std.proofs.Common.{rules, true}
use Rattle.rpki_der.specs.TagName.{sequence}
use Rattle.rpki_der.proofs.FirstFaultLaws.{read-parts-inside}
use Rattle.rpki.specs.Algorithm.{IsIdentified}
use Rattle.rpki.specs.AlgorithmFault.{identified}
use Rattle.rpki.proofs.crypto.algorithm_identifier.take_algorithm.Goals as goal

pub returns : goal.returns
returns c =
    let o = c.args.expected.0.now in
    read-parts-inside (λ b. b) sequence true (IsIdentified o) (identified o).fault _ (λ b a x h. search rules) _ _ _
    c.in_sequence.ensures

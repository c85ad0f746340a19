use Rattle.std.proofs.Common.{Bool, sym, subst}
use Rattle.rpki.specs.Oids.{sha256_with_rsa_encryption}
use Rattle.rpki.specs.Algorithm.{SpellsAlgorithm}
use Rattle.rpki.specs.SignedData.{SignedParts, SpellsSigned}
use Rattle.rpki.proofs.SignedLaws.{differ-in-count}
use Rattle.rpki.proofs.EqualLaws.{same-signed, one-spelling}
use Rattle.rpki.proofs.laws.equal_signed_data_differ_in_count.Goals as goal

pub returns : goal.returns
returns c = λ v w a b same p q.
    let moved : SpellsSigned (SpellsAlgorithm sha256_with_rsa_encryption) v b = subst
    (λ (x : SignedParts Bool). SpellsSigned (SpellsAlgorithm sha256_with_rsa_encryption) x b)
    (sym (same-signed v w same)) q in
    differ-in-count (SpellsAlgorithm sha256_with_rsa_encryption) v a b p moved (λ s t. one-spelling v.algorithm s t)

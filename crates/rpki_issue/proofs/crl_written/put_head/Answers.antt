use Rattle.std.proofs.Common.{false, [], ◌∷◌, arith}
use Rattle.rpki_der.specs.Prelude.{integer}
use Rattle.rpki_der.proofs.EncodeLaws.{tlv_at_most}
use Rattle.rpki_issue.proofs.WrittenTbsLaws.{algorithm-few}
use Rattle.rpki_issue.proofs.crl_written.put_head.Goals as goal

pub put-requires-clause-few : goal.put-requires-clause-few
put-requires-clause-few c =
    let few = tlv_at_most integer false (1 ∷ []) in
    rw c.encode_version.ensures.octets (omega (arith, few))

pub put-requires-2-clause-few : goal.put-requires-2-clause-few
put-requires-2-clause-few c = rw c.x509_encode.ensures.octets (omega (arith, algorithm-few))

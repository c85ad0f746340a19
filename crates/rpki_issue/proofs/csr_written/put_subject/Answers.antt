use Rattle.std.proofs.Common.{true, [], arith}
use Rattle.rpki_der.specs.Prelude.{sequence}
use Rattle.rpki_der.proofs.EncodeLaws.{tlv_at_most}
use Rattle.rpki_issue.proofs.csr_written.put_subject.Goals as goal

pub put-requires-in-None-clause-few : goal.put-requires-in-None-clause-few
put-requires-in-None-clause-few c = rw c.new.ensures (omega (arith, tlv_at_most sequence true []))

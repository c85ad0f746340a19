use Rattle.std.proofs.Common.{arith}
use Rattle.rpki_issue.proofs.RequestLaws.{attributes-few}
use Rattle.rpki_issue.proofs.csr_written.put_all.Goals as goal

pub put-requires-clause-few : goal.put-requires-clause-few
put-requires-clause-few c =
    let few = attributes-few c.args.listed.now c.requires in
    rw c.encode_attributes.ensures.octets (omega (arith, few))

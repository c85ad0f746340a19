use Rattle.rpkicert.proofs.OutcomeLaws.{refusal-of}
use Rattle.rpkicert.proofs.outcome.decoded.Goals as goal

pub returns-in-Ok : goal.returns-in-Ok
returns-in-Ok c =
    let h = rw (c.of-kind.ensures, c.in_ok-bytes.ensures.ok, c.in_ok-copy.ensures.items) at c.in-Ok.ensures in
    record { is = h }

pub returns-in-Err : goal.returns-in-Err
returns-in-Err c =
    let h = rw (c.of-kind.ensures, c.in_ok-bytes.ensures.ok, c.in_ok-copy.ensures.items) at c.in-Err.ensures in
    let k = rw c.of-kind.ensures at c.of.ensures in
    rw (c.refusal.ensures, c.of-kind.ensures) (refusal-of c.args.octets.now c.of.result c.in-Err.e h k)

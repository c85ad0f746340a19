use Rattle.rpki_text.proofs.HexLaws.{hex-step}
use Rattle.rpki_text.proofs.util.hex.written.Goals as goal

pub loop-i-preserved : goal.loop-i-preserved
loop-i-preserved c =
    let step = hex-step c.args.src.now c.loop-i.dest c.args.dest.now c.loop-i.i c.loop-i-test.true c.requires
    c.loop-i.invariant in
    rw c.encode_u8-digits.ensures step

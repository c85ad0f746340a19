use Rattle.rpki_text.proofs.HexLaws.{hex-step}
use Rattle.rpki_c.proofs.digits.write_digits.Goals as goal

pub loop-i-preserved : goal.loop-i-preserved
loop-i-preserved c =
    let step = hex-step c.args.octets.now c.loop-i.out c.args.out.now c.loop-i.i c.loop-i-test.true c.requires
    c.loop-i.invariant in
    rw c.encode_u8-digits.ensures step

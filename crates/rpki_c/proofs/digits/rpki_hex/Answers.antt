use Rattle.std.proofs.Common.{refl, inr, sym, arith}
use Rattle.rpki_text.proofs.HexLaws.{length-hex_text}
use Rattle.rpki_c.proofs.digits.rpki_hex.Goals as goal

pub returns-then-len-out : goal.returns-then-len-out
returns-then-len-out c =
    let size = length-hex_text c.args.octets.now in
    inr (refl, record { short = omega (arith, size); buffer = refl; size = sym size })

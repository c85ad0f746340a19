use Rattle.std.proofs.Common.{sym, ◌∙◌}
use Rattle.rpki_fields.proofs.OtherSizeLaws.{rsa-size-is}
use Rattle.rpki_fields.proofs.algorithm_text.size_if.Goals as goal

pub returns-then-is_rsa : goal.returns-then-is_rsa
returns-then-is_rsa c =
    let known = rw c.algorithm.ensures at (sym c.is_rsa.ensures ∙ c.if-is_rsa.true) in
    let size = rw (c.octet_slice.ensures, c.bits-bits.ensures) at c.in_ok-size.ensures in
    rsa-size-is c.args.key.now c.in_ok-size.size.items known size

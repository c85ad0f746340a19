use Rattle.std.proofs.Common.{sym, ◌∙◌}
use Rattle.rpki_fields.proofs.key_size.size_text.Goals as goal

pub returns-in-Rsa : goal.returns-in-Rsa
returns-in-Rsa c =
    rw (sym c.algorithm.ensures ∙ c.in-Rsa.is) (rw c.bits.ensures at c.rsa_size.ensures)

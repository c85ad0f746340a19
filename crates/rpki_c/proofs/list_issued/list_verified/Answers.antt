use Rattle.std.proofs.Common.{sym}
use Rattle.rpki_c.proofs.list_issued.list_verified.Goals as goal

pub returns : goal.returns
returns c = λ s t x y h k.
    rw (k.tbs.named.keyed.same, h.parts.signed.octets, h.parts.signature.octets, sym h.spelled.stands.same) at
    c.verified.ensures

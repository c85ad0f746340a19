use Rattle.rpki_parse.proofs.octets.are_bytes.Goals as goal

pub returns : goal.returns
returns c = λ k. (c.type_inv.octets k).fits

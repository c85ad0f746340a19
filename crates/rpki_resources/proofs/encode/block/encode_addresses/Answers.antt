use Rattle.rpki_resources.specs.Encoded.{bits_at}
use Rattle.rpki_resources.proofs.BlockWritingLaws.{bits-pair-short}
use Rattle.rpki_resources.proofs.encode.block.encode_addresses.Goals as goal

pub returns-in-None-clause-short : goal.returns-in-None-clause-short
returns-in-None-clause-short c =
    let low = c.new.result.0.content in
    let high = c.new.result.1.content in
    bits-pair-short _ _ (bits_at low.number low.size) (bits_at high.number high.size) low.legal.0 high.legal.0

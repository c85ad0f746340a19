use Rattle.std.proofs.Common.{refl}
use Rattle.rpki_rsa.proofs.EncodingLemmas.{encoding_is}
use Rattle.rpki_rsa.proofs.encoding.encoded.Goals as goal

pub returns : goal.returns
returns c =
    encoding_is c.args.digest.now _ c.put.new.octets c.put-2.new.octets c.put-3.new.octets c.put-4.new.octets c.args.len
    c.requires.least c.requires.most c.told-digest refl
    c.put.ensures c.put-2.ensures c.put-3.ensures c.put-4.ensures

use Rattle.std.proofs.lemmas.Result.{err_from_is_err_and}
use Rattle.rpki_der.proofs.WritingLaws.{beginning_of, beginning_more, writes_then}
use Rattle.rpki_resources.specs.Encoded.{bits_at, address_bits}
use Rattle.rpki_resources.proofs.AddressWritingLaws.{shifted}
use Rattle.rpki_resources.proofs.encode.address.AddressBitsPrimitiveContent.write_encoded.Goals as goal

pub returns-in_err-write_whole : goal.returns-in_err-write_whole
returns-in_err-write_whole g c =
    let p = err_from_is_err_and c.from_residual.result c.from_residual.ensures.1 in
    let x = bits_at c.args.self.now.number c.args.self.now.size in
    let wrote = rw c.octet_count_of-count.ensures at c.in_err-write_whole.ensures in
    rw p.1 (beginning_more _ _ _ (address_bits x).octets (beginning_of _ _ _ wrote))

pub returns : goal.returns
returns g c =
    let x = bits_at c.args.self.now.number c.args.self.now.size in
    let first = rw c.octet_count_of-count.ensures at c.in_ok-write_whole.ensures in
    let h = c.args.self.now.legal in
    let number = shifted x h.0 h.1 in
    let then = rw (c.octet_count_of-count.ensures, number) at c.write_octets.ensures in
    writes_then _ _ _ _ _ _ first then

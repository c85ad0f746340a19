use Rattle.std.proofs.Common.{false}
use Rattle.std.proofs.lemmas.Result.{err_from_is_err_and}
use Rattle.rpki_der.specs.TagName.{ia5_string, bit_string}
use Rattle.rpki_der.specs.Header.{tlv}
use Rattle.rpki_der.proofs.WritingLaws.{beginning_more, writes_then}
use Rattle.rpki_x509.specs.MessageDigest.{hash_contents}
use Rattle.rpki_contents.proofs.encode.FilePartsValues.write_encoded.Goals as goal

pub returns : goal.returns
returns g c =
    let x = c.self.inside.file.now in
    rw (← c.self.view_is)
    (writes_then _ _ _ _ (tlv ia5_string false x.0) (tlv bit_string false (hash_contents x.1))
    c.in_ok-write_name.ensures c.write_hash.ensures)

pub returns-in_err-write_name : goal.returns-in_err-write_name
returns-in_err-write_name g c =
    let x = c.self.inside.file.now in
    let p = err_from_is_err_and c.from_residual.result c.from_residual.ensures.1 in
    rw (p.1, ← c.self.view_is)
    (beginning_more _ _ (tlv ia5_string false x.0) (tlv bit_string false (hash_contents x.1))
    c.in_err-write_name.ensures)

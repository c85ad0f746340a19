use Rattle.std.proofs.Common.{[], ◌∷◌}
use Rattle.std.proofs.lemmas.Result.{err_from_is_err_and}
use Rattle.rpki_der.proofs.WritingLaws.{beginning_of, beginning_more, writes_of_cut, writes_then}
use Rattle.rpki_x509.proofs.message_digest.MessageDigestPrimitiveContent.write_encoded.Goals as goal

pub returns : goal.returns
returns g c =
    rw (← c.as_slice.ensures.octets)
    (writes_then _ _ _ _ (0 ∷ []) c.as_slice.result.now c.in_ok-write_whole.ensures
    (writes_of_cut _ _ _ _ c.write_whole-2.ensures))

pub returns-in_err-write_whole : goal.returns-in_err-write_whole
returns-in_err-write_whole g c =
    let p = err_from_is_err_and c.from_residual.result c.from_residual.ensures.1 in
    rw p.1 (beginning_more _ _ (0 ∷ []) c.args.self.now (beginning_of _ _ _ c.in_err-write_whole.ensures))

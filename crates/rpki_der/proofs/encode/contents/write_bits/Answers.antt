use Rattle.std.proofs.Common.{[], ◌∷◌}
use Rattle.std.proofs.lemmas.Result.{err_from_is_err_and}
use Rattle.rpki_der.proofs.WritingLaws.{beginning_of, beginning_more, writes_of_cut, writes_then}
use Rattle.rpki_der.proofs.encode.contents.write_bits.Goals as goal

pub returns : goal.returns
returns g c =
    rw (← c.unused.ensures.value, ← c.octet_slice.ensures)
    (writes_then _ _ _ _ (c.unused.result ∷ []) c.octet_slice.result.now c.in_ok-write_whole.ensures
    (writes_of_cut _ _ _ _ c.write_whole-2.ensures))

pub returns-in_err-write_whole : goal.returns-in_err-write_whole
returns-in_err-write_whole g c =
    let p = err_from_is_err_and c.from_residual.result c.from_residual.ensures.1 in
    rw (p.1, ← c.unused.ensures.value) (beginning_more _ _ (c.unused.result ∷ []) c.args.bits.now.octets
    (beginning_of _ _ _ c.in_err-write_whole.ensures))

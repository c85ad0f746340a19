use Rattle.std.proofs.Common.{◌∷◌, []}
use Rattle.std.proofs.lemmas.Result.{err_from_is_err_and}
use Rattle.rpki_der.proofs.WritingLaws.{writes_then, writes_of_cut, beginning_of, beginning_more}
use Rattle.rpki_c.proofs.signed_value.WholeBitsPrimitiveContent.write_encoded.Goals as goal

pub returns-in_err-write_whole : goal.returns-in_err-write_whole
returns-in_err-write_whole g c =
    let p = err_from_is_err_and c.from_residual.result c.from_residual.ensures.1 in
    rw p.1 (beginning_more _ _ (0 ∷ []) _ (beginning_of _ _ (0 ∷ []) c.in_err-write_whole.ensures))

pub returns : goal.returns
returns g c =
    writes_then _ _ _ c.write_whole-2.result (0 ∷ []) _ c.in_ok-write_whole.ensures
    (writes_of_cut _ _ c.write_whole-2.result _ c.write_whole-2.ensures)

use Rattle.std.proofs.Common.{◌≡◌, ◌∷◌, []}
use Rattle.std.proofs.lemmas.Result.{err_from_is_err_and}
use Rattle.rpki_der.specs.Integer.{unsigned_contents}
use Rattle.rpki_der.proofs.UnsignedLaws.{unsigned_after_zero}
use Rattle.rpki_der.proofs.WritingLaws.{writes_then, writes_of_cut, beginning_of, beginning_more}
use Rattle.rpki_der.proofs.encode.unsigned.UnsignedPrimitiveContent.write_encoded.Goals as goal

pub returns-in_ok-write_whole : goal.returns-in_ok-write_whole
returns-in_ok-write_whole g c =
    let whole : unsigned_contents c.args.self.now ≡ 0 ∷ c.args.self.now = unsigned_after_zero c.args.self.now
    (c.needs_zero.ensures.0 c.if-needs_zero.true) in
    rw whole (writes_then _ _ _ c.write_whole-then-needs_zero.result (0 ∷ []) _ c.in_ok-write_whole.ensures
    (rw (← c.as_slice.ensures.octets) (writes_of_cut _ _ c.write_whole-then-needs_zero.result _
    c.write_whole-then-needs_zero.ensures)))

pub returns-in_err-write_whole : goal.returns-in_err-write_whole
returns-in_err-write_whole g c =
    let p = err_from_is_err_and c.from_residual.result c.from_residual.ensures.1 in
    let whole : unsigned_contents c.args.self.now ≡ 0 ∷ c.args.self.now = unsigned_after_zero c.args.self.now
    (c.needs_zero.ensures.0 c.if-needs_zero.true) in
    rw (p.1, whole) (beginning_more _ _ (0 ∷ []) c.args.self.now
    (beginning_of _ _ (0 ∷ []) c.in_err-write_whole.ensures))

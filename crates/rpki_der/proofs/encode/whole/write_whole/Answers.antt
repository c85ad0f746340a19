use Rattle.std.proofs.Common.{◌≡◌, ℕ, Bool, false, eqb, List, [], length, take, arith, sym, ◌∙◌}
use Rattle.std.proofs.lemmas.Result.{err_from_is_err_and}
use Rattle.rpki_der.proofs.WritingLaws.{all-but-then, cut-at, cut-before, keeps-take}
use Rattle.rpki_der.proofs.encode.whole.write_whole.Goals as goal

some-left : (xs : List ℕ) (b : Bool) → b ≡ false → b ≡ eqb (length xs) 0 → xs ≡ [] → ⊥
some-left xs b e f none = let g : eqb (length xs) 0 ≡ false = sym f ∙ e in let h = rw none at g in cc

pub loop-rest-preserved : goal.loop-rest-preserved
loop-rest-preserved g c =
    all-but-then _ _ _ _ c.loop-rest.rest.now (take c.in_ok-taken.taken c.loop-rest.rest.now) _ c.loop-rest.invariant
    (cut-at c.in_ok-taken.taken c.loop-rest.rest.now) c.in_ok-taken.ensures.bytes

pub returns-then-taken-eq0 : goal.returns-then-taken-eq0
returns-then-taken-eq0 g c =
    cut-before _ _ _ _ c.loop-rest.rest.now c.loop-rest.invariant
    (some-left _ _ c.loop-rest-test.true c.is_empty.ensures)
    (keeps-take _ _ _ _ (omega (arith, c.if-taken-eq0.true)) c.in_ok-taken.ensures.bytes)

pub returns-in_err-taken : goal.returns-in_err-taken
returns-in_err-taken g c =
    let p = err_from_is_err_and c.from_residual.result c.from_residual.ensures.1 in
    rw p.1 (cut-before _ _ _ _ c.loop-rest.rest.now c.loop-rest.invariant
    (some-left _ _ c.loop-rest-test.true c.is_empty.ensures) c.in_err-taken.ensures.bytes)

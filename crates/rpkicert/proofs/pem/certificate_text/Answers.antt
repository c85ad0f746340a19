use Rattle.std.proofs.Common.{◌≡◌, ℕ, length, arith, sym, ap}
use Rattle.std.proofs.lemmas.List.{length-drop}
use Rattle.std.specs.Prelude.{Some}
use Rattle.rpkicert.specs.Pem.{from_begin}
use Rattle.rpkicert.proofs.PemLaws.{begin-size}
use Rattle.rpkicert.proofs.pem.certificate_text.Goals as goal

pub slice_bounds-result-count : goal.slice_bounds-result-count
slice_bounds-result-count c =
    let e : Some c.in-Some.next.now ≡ from_begin c.after.result.now = c.in-Some.ensures in
    let size = begin-size c.after.result.now c.in-Some.next.now (sym e) in
    let all = ap (length {A = ℕ}) c.after.ensures in
    omega (arith, length-drop {A = ℕ})

use Rattle.std.proofs.Common.{◌≡◌, ◌<◌, arith, get_or, length, refl, rules}
use Rattle.std.proofs.lemmas.Option.{slice_get_read}
use Rattle.rpki_payloads.proofs.ConflictLaws.{none-at-all, none-next}
use Rattle.rpki_payloads.proofs.conflict.overlap_with.Goals as goal

pub files-init : goal.files-init
files-init c = λ i o lt h. absurd (omega (arith, lt))

pub returns-in-Some : goal.returns-in-Some
returns-in-Some c =
    let files = c.args.files.now in
    let i = c.files.at in
    let x = c.index-files-at.result in
    let lt : i < length files = omega arith in
    let one : x ≡ get_or files i x = search rules in
    (x, slice_get_read files (length files) i x refl lt one, rw c.in-Some.is at c.in_ok-found.ensures)

pub files-preserved : goal.files-preserved
files-preserved c =
    let files = c.args.files.now in
    let i = c.files.at in
    let x = c.index-files-at.result in
    let lt : i < length files = omega arith in
    let one : x ≡ get_or files i x = search rules in
    none-next files c.args.other.now x i (slice_get_read files (length files) i x refl lt one)
    (rw c.in_default.is at c.in_ok-found.ensures)
    c.files.invariant

pub returns : goal.returns
returns c = λ f h. none-at-all c.args.files.now c.args.other.now c.files.at f.0 f.1 (omega arith) c.files.invariant h

use Rattle.std.proofs.Common.{◌≡◌, ◌<◌, arith, get_or, length, refl, rules}
use Rattle.std.proofs.lemmas.Option.{slice_get_read}
use Rattle.rpki_payloads.proofs.ConflictLaws.{is-conflict, no-conflict, no-conflict-next}
use Rattle.rpki_payloads.proofs.conflict.conflict_in.Goals as goal

pub files-init : goal.files-init
files-init c = λ x h. omega arith

pub returns-in-Some : goal.returns-in-Some
returns-in-Some c =
    let files = c.args.files.now in
    let i = c.files.second in
    let x = c.index-files-second.result in
    let lt : i < length files = omega arith in
    let one : x ≡ get_or files i x = search rules in
    is-conflict files x i _ (slice_get_read files (length files) i x refl lt one) refl
    (rw (c.in-Some.is, c.split_at.ensures.front) at c.in_ok-found.ensures)

pub files-preserved : goal.files-preserved
files-preserved c =
    let files = c.args.files.now in
    let i = c.files.second in
    let x = c.index-files-second.result in
    let lt : i < length files = omega arith in
    let one : x ≡ get_or files i x = search rules in
    no-conflict-next files x i (slice_get_read files (length files) i x refl lt one)
    (rw (c.in_default.is, c.split_at.ensures.front) at c.in_ok-found.ensures) c.files.invariant

pub returns : goal.returns
returns c = λ x h. no-conflict c.args.files.now c.files.second x (omega arith) c.files.invariant h

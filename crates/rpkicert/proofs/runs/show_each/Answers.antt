use Rattle.std.proofs.Common.{◌<◌, ◌≤◌, ℕ, List, [], length, get_or, arith, Bor}
use Rattle.std.proofs.lemmas.List.{get_or_default}
use Rattle.rpkicert.specs.OutputView.{seen_of}
use Rattle.rpkicert.proofs.RunLaws.{none-seen, one-seen, cut-seen, all-seen}
use Rattle.rpkicert.proofs.runs.show_each.Goals as goal

-- what is read past the last file
abbrev slot : Bor (List ℕ)
slot = record { ref_ptr = (0, 0); now = [] }

pub files-init : goal.files-init
files-init g c = λ k. (k, none-seen _ _)

pub files-preserved : goal.files-preserved
files-preserved g c = λ k.
    let files = c.args.request.now.files.now in
    let file = get_or files c.files.file-index slot in
    let lt : c.files.file-index < length files = omega arith in
    let before = c.files.invariant k in
    let written = c.in-Some.ensures.written before.0 in (
      c.write_shown.ensures.known before.0,
      rw c.max-worst.ensures
          (one-seen (λ file. file.now) _ files c.files.file-index file _ _ _ _ _ (seen_of c.seen-shown.result) lt
          (get_or_default files c.files.file-index slot file lt) before.1 c.seen-shown.ensures written.0 written.1),
    )

pub returns-in-None-clause-known : goal.returns-in-None-clause-known
returns-in-None-clause-known g c = λ k. c.write_shown.ensures.known (c.files.invariant k).0

pub returns-in-None-clause-run : goal.returns-in-None-clause-run
returns-in-None-clause-run g c = λ k.
    let files = c.args.request.now.files.now in
    let file = get_or files c.files.file-index slot in
    let lt : c.files.file-index < length files = omega arith in
    let before = c.files.invariant k in
    cut-seen (λ file. file.now) _ files c.files.file-index file _ _ _ _ (seen_of c.seen-shown.result) lt
    (get_or_default files c.files.file-index slot file lt) before.1 c.seen-shown.ensures
    (c.in-None.ensures.written before.0)

pub returns-clause-known : goal.returns-clause-known
returns-clause-known g c = λ k. (c.files.invariant k).0

pub returns-clause-run : goal.returns-clause-run
returns-clause-run g c = λ k.
    let le : length c.args.request.now.files.now ≤ c.files.file-index = omega arith in
    all-seen (λ file. file.now) _ c.args.request.now.files.now c.files.file-index _ _ _ le (c.files.invariant k).1

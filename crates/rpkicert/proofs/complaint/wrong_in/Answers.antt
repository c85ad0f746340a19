use Rattle.std.proofs.Common.{◌≡◌, ◌∙◌, ◌+◌, ◌<◌, ◌≤◌, true, false, length, get_or, take, drop, sym, ap, ap₂, arith}
use Rattle.std.proofs.Common.{rules, codes, bytes_eq, string_bytes}
use Rattle.std.proofs.lemmas.List.{take_all, drop_all}
use Rattle.rpkicert.specs.Complaint.{wrong_at_end, wrong_behind}
use Rattle.rpkicert.specs.ComplaintView.{texts_of}
use Rattle.rpkicert.proofs.ComplaintLaws.{behind-none, behind-files, behind-wrong, behind-next, words-at}
use Rattle.rpkicert.proofs.RunLaws.{names-more}
use Rattle.rpkicert.proofs.complaint.wrong_in.Goals as goal

pub returns-then-is : goal.returns-then-is
returns-then-is c =
    let words = c.args.words.now in
    let i = c.loop-at.at in
    let word = c.index-words-at.result in
    let lt : i < length words = omega arith in
    let one : word ≡ get_or words i word = search rules in
    let octets : c.as_bytes-word.result.now ≡ string_bytes word = c.as_bytes-word.ensures.value in
    let files : bytes_eq (string_bytes word) (codes "--") ≡ true = rw octets at (sym c.is.ensures ∙ c.if-is.true) in
    c.wrong_at_end.ensures ∙ ap (λ w. wrong_at_end (texts_of w)) c.split_at.ensures.front
    ∙ sym (behind-files (texts_of (take i words)) (string_bytes word) (texts_of (drop (i + 1) words)) files)
    ∙ ap (wrong_behind (texts_of (take i words))) (sym (words-at (λ w. string_bytes w) words i word lt one))
    ∙ c.loop-at.invariant

pub returns-in-Some : goal.returns-in-Some
returns-in-Some c =
    let words = c.args.words.now in
    let i = c.loop-at.at in
    let word = c.index-words-at.result in
    let lt : i < length words = omega arith in
    let one : word ≡ get_or words i word = search rules in
    let octets : c.as_bytes-word.result.now ≡ string_bytes word = c.as_bytes-word.ensures.value in
    let files : bytes_eq (string_bytes word) (codes "--") ≡ false = rw octets at (sym c.is.ensures ∙ c.if-is.false) in
    let next = rw (octets, c.split_at.ensures.front) at c.in-Some.ensures in
    sym (behind-wrong (texts_of (take i words)) (string_bytes word) (texts_of (drop (i + 1) words)) _ files (sym next))
    ∙ ap (wrong_behind (texts_of (take i words))) (sym (words-at (λ w. string_bytes w) words i word lt one))
    ∙ c.loop-at.invariant

pub loop-at-preserved : goal.loop-at-preserved
loop-at-preserved c =
    let words = c.args.words.now in
    let i = c.loop-at.at in
    let word = c.index-words-at.result in
    let lt : i < length words = omega arith in
    let one : word ≡ get_or words i word = search rules in
    let octets : c.as_bytes-word.result.now ≡ string_bytes word = c.as_bytes-word.ensures.value in
    let files : bytes_eq (string_bytes word) (codes "--") ≡ false = rw octets at (sym c.is.ensures ∙ c.if-is.false) in
    let next = rw (octets, c.split_at.ensures.front) at c.in_default.ensures in
    ap (λ w. wrong_behind w (texts_of (drop (i + 1) words))) (names-more (λ w. string_bytes w) words i word lt one)
    ∙ sym (behind-next (texts_of (take i words)) (string_bytes word) (texts_of (drop (i + 1) words)) files (sym next))
    ∙ ap (wrong_behind (texts_of (take i words))) (sym (words-at (λ w. string_bytes w) words i word lt one))
    ∙ c.loop-at.invariant

pub returns : goal.returns
returns c =
    let words = c.args.words.now in
    let i = c.loop-at.at in
    let le : length words ≤ i = omega arith in
    c.wrong_at_end-2.ensures ∙ sym (behind-none (texts_of words))
    ∙ ap₂ (λ v w. wrong_behind (texts_of v) (texts_of w)) (sym (take_all i words le)) (sym (drop_all i words le))
    ∙ c.loop-at.invariant

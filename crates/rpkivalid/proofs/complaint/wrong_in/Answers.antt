use Rattle.std.proofs.Common.{◌≡◌, ◌∙◌, ◌+◌, ◌<◌, ◌≤◌, length, get_or, take, drop, sym, ap, ap₂, arith}
use Rattle.std.proofs.Common.{rules, string_bytes, Bool}
use Rattle.std.proofs.lemmas.List.{take_all, drop_all}
use Rattle.rpkivalid.specs.Complaint.{wrong_behind}
use Rattle.rpkivalid.specs.ComplaintView.{texts_of}
use Rattle.rpkivalid.proofs.ComplaintLaws.{behind-none, behind-wrong, behind-next, names-more, words-at}
use Rattle.rpkivalid.proofs.complaint.wrong_in.Goals as goal

pub returns-in-Some : goal.returns-in-Some
returns-in-Some c =
    let words = c.args.words.now in
    let i = c.loop-at.at in
    let named = c.loop-at.in_files in
    let word = c.index-words-at.result in
    let lt : i < length words = omega arith in
    let one : word ≡ get_or words i word = search rules in
    let octets : c.as_bytes-word.result.now ≡ string_bytes word = c.as_bytes-word.ensures.value in
    let next = rw (octets, c.split_at.ensures.front) at c.in-Some.ensures in
    sym (behind-wrong (texts_of (take i words)) named (string_bytes word) (texts_of (drop (i + 1) words)) _ (sym next))
    ∙ ap (wrong_behind (texts_of (take i words)) named) (sym (words-at (λ w. string_bytes w) words i word lt one))
    ∙ c.loop-at.invariant

pub loop-at-preserved : goal.loop-at-preserved
loop-at-preserved c =
    let words = c.args.words.now in
    let i = c.loop-at.at in
    let named = c.loop-at.in_files in
    let word = c.index-words-at.result in
    let lt : i < length words = omega arith in
    let one : word ≡ get_or words i word = search rules in
    let octets : c.as_bytes-word.result.now ≡ string_bytes word = c.as_bytes-word.ensures.value in
    let next = rw (octets, c.split_at.ensures.front) at c.in_default.ensures in
    let after = rw octets at c.in_files_after-in_files.ensures in
    ap₂ (λ w (b : Bool). wrong_behind w b (texts_of (drop (i + 1) words)))
    (names-more (λ w. string_bytes w) words i word lt one) after
    ∙ sym (behind-next (texts_of (take i words)) named (string_bytes word) (texts_of (drop (i + 1) words)) (sym next))
    ∙ ap (wrong_behind (texts_of (take i words)) named) (sym (words-at (λ w. string_bytes w) words i word lt one))
    ∙ c.loop-at.invariant

pub returns : goal.returns
returns c =
    let words = c.args.words.now in
    let i = c.loop-at.at in
    let le : length words ≤ i = omega arith in
    c.wrong_at_end.ensures ∙ sym (behind-none (texts_of words) c.loop-at.in_files)
    ∙ ap₂ (λ v w. wrong_behind (texts_of v) c.loop-at.in_files (texts_of w)) (sym (take_all i words le))
    (sym (drop_all i words le))
    ∙ c.loop-at.invariant

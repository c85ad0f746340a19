use Rattle.std.proofs.Common.{◌∙◌, sym, rules}
use Rattle.rpki_records.proofs.CardLaws.{word-differs, word-ended, word-goes-on, word-whole}
use Rattle.rpki_records.proofs.card_octets.is_word.Goals as goal

pub returns-then-not-eq_ignore_ascii_case : goal.returns-then-not-eq_ignore_ascii_case
returns-then-not-eq_ignore_ascii_case c =
    let e = sym c.eq_ignore_ascii_case.ensures ∙ c.if-not-eq_ignore_ascii_case.true in
    sym (c.word.invariant
    ∙ word-differs c.word.rest.now c.args.word.now c.word.letter-index _ _ (sym c.in-Some.ensures.next)
    c.word-test.true e)

pub returns-in-None : goal.returns-in-None
returns-in-None c =
    sym (c.word.invariant
    ∙ word-ended c.word.rest.now c.args.word.now c.word.letter-index (sym c.in-None.ensures.next) c.word-test.true)

pub word-preserved : goal.word-preserved
word-preserved c =
    let e = sym c.eq_ignore_ascii_case.ensures ∙ c.if-not-eq_ignore_ascii_case.false in
    c.word.invariant
    ∙ word-goes-on c.word.rest.now c.args.word.now c.word.letter-index _ _ (sym c.in-Some.ensures.next)
    c.word-test.true e

pub returns : goal.returns
returns c =
    let e = word-whole c.word.rest.now c.args.word.now c.word.letter-index c.word-test.false in
    rw (c.word.invariant, e, sym c.next_octet-2.ensures.next) (search rules)

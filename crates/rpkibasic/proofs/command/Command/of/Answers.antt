use Rattle.std.proofs.Common.{sym, ◌∙◌}
use Rattle.std.specs.Prelude.{string_bytes, codes}
use Rattle.std.proofs.lemmas.Slice.Eq.{bytes_eq-Decides}
use Rattle.rpkibasic.proofs.WordLaws.{one-word}
use Rattle.rpkibasic.proofs.command.Command.of.Goals as goal

pub returns-in-len1-clause-named : goal.returns-in-len1-clause-named
returns-in-len1-clause-named c =
    one-word string_bytes _ c.word-item.result (codes "again") c.in-len1.len_at_least c.in-len1.len_below c.word-item.is
    (sym c.as_str.ensures.value ∙ (bytes_eq-Decides _ _).0 (sym c.eq.ensures ∙ c.if-eq.true))

pub returns-in-len1-2-clause-named : goal.returns-in-len1-2-clause-named
returns-in-len1-2-clause-named c =
    one-word string_bytes _ c.word-item-then-words-lt2.result (codes "data") c.in-len1.len_at_least c.in-len1.len_below
    c.word-item-then-words-lt2.is
    (sym c.as_str-then-words-lt2.ensures.value
    ∙ (bytes_eq-Decides _ _).0 (sym c.eq-then-words-lt2.ensures ∙ c.if-eq-2.true))

pub returns-in-len1-3-clause-named : goal.returns-in-len1-3-clause-named
returns-in-len1-3-clause-named c =
    one-word string_bytes _ c.word-item-then-words-lt2-2.result (codes "key") c.in-len1.len_at_least c.in-len1.len_below
    c.word-item-then-words-lt2-2.is
    (sym c.as_str-then-words-lt2-2.ensures.value
    ∙ (bytes_eq-Decides _ _).0 (sym c.eq-then-words-lt2-2.ensures ∙ c.if-eq-3.true))

pub returns-in-len1-4-clause-named : goal.returns-in-len1-4-clause-named
returns-in-len1-4-clause-named c =
    one-word string_bytes _ c.word-item-then-words-lt2-3.result (codes "uri") c.in-len1.len_at_least c.in-len1.len_below
    c.word-item-then-words-lt2-3.is
    (sym c.as_str-then-words-lt2-3.ensures.value
    ∙ (bytes_eq-Decides _ _).0 (sym c.eq-then-words-lt2-3.ensures ∙ c.if-eq-4.true))

pub returns-in-len1-5-clause-named : goal.returns-in-len1-5-clause-named
returns-in-len1-5-clause-named c =
    one-word string_bytes _ c.word-item-then-words-lt2-4.result (codes "ext") c.in-len1.len_at_least c.in-len1.len_below
    c.word-item-then-words-lt2-4.is
    (sym c.as_str-then-words-lt2-4.ensures.value
    ∙ (bytes_eq-Decides _ _).0 (sym c.eq-then-words-lt2-4.ensures ∙ c.if-eq-5.true))

pub returns-in-len1-6-clause-named : goal.returns-in-len1-6-clause-named
returns-in-len1-6-clause-named c =
    one-word string_bytes _ c.word-item-then-words-lt2-5.result (codes "name") c.in-len1.len_at_least
    c.in-len1.len_below c.word-item-then-words-lt2-5.is
    (sym c.as_str-then-words-lt2-5.ensures.value
    ∙ (bytes_eq-Decides _ _).0 (sym c.eq-then-words-lt2-5.ensures ∙ c.if-eq-6.true))

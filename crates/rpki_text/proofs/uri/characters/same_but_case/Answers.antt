use Rattle.std.proofs.Common.{◌≡◌, true, false, sym, refl, ◌∙◌}
use Rattle.std.proofs.lemmas.Bool.{false_from_ne_true}
use Rattle.rpki_text.proofs.TextLaws.{same_text-length, same_text-front, same_text-other}
use Rattle.rpki_text.proofs.uri.characters.same_but_case.Goals as goal

pub returns-then-text-other : goal.returns-then-text-other
returns-then-text-other c =
    sym (false_from_ne_true _ (λ e. let l = same_text-length c.args.len c.args.text.now c.args.other.now e in
    c.if-text-other.true l))

pub returns-then-eq_ignore_ascii_case : goal.returns-then-eq_ignore_ascii_case
returns-then-eq_ignore_ascii_case c =
    let same =
    rw (c.split_at.ensures.front, c.split_at-2.ensures.front) at (c.if-eq_ignore_ascii_case.ensures.test.0 refl) in
    rw (c.eq.ensures, c.split_at.ensures.back, c.split_at-2.ensures.back)
    (sym (same_text-front c.args.len c.args.text.now c.args.other.now same))

pub returns-else-eq_ignore_ascii_case : goal.returns-else-eq_ignore_ascii_case
returns-else-eq_ignore_ascii_case c =
    c.if-eq_ignore_ascii_case.false ∙ sym
    (same_text-other c.args.len c.args.text.now c.args.other.now
    (λ e. let no : false ≡ true = c.if-eq_ignore_ascii_case.ensures.test.1
    (rw (c.split_at.ensures.front, c.split_at-2.ensures.front) e) in cc))

use Rattle.std.proofs.Common.{◌≡◌, true, take, sym, ap, ◌∙◌, arith}
use Rattle.rpki_text.specs.Segments.{segments, is_dir}
use Rattle.rpki_text.specs.RsyncText.{names_refusal}
use Rattle.rpki_text.proofs.SegmentLaws.{segments-empty}
use Rattle.rpki_text.proofs.OrdinaryLaws.{front-skipped, take-within}
use Rattle.rpki_text.proofs.uri.path.after_ordinary.Goals as goal

pub loop-rest-preserved : goal.loop-rest-preserved
loop-rest-preserved c =
    let n = c.after_last_slash.result in
    let rest = c.loop-rest.rest.now in
    let front = c.split_at-in-loop-rest.ensures.front in
    let closed : is_dir (take n rest) ≡ true =
    ap is_dir
    (sym (take-within n 255 rest (omega (arith, c.after_last_slash.ensures.within, c.split_at.ensures.front_len))) ∙ ap
    (take n) (sym c.split_at.ensures.front)) ∙ c.after_last_slash.ensures.front in
    c.loop-rest.invariant ∙ front-skipped rest n closed
    (ap (λ p. names_refusal (segments p)) (sym front) ∙ c.are_ordinary.ensures c.if-not-are_ordinary.false)
    ∙ ap (λ p. names_refusal (segments p)) (sym c.split_at-in-loop-rest.ensures.back)

pub returns-then-are_ordinary : goal.returns-then-are_ordinary
returns-then-are_ordinary c =
    c.loop-rest.invariant ∙ c.are_ordinary-2.ensures c.if-are_ordinary.true ∙ sym (ap names_refusal segments-empty)

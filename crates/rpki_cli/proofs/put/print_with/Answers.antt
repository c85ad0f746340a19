use Rattle.std.proofs.Common.{[], ◌∷◌, ◌++◌, ◌∙◌, refl, string_bytes, sym}
use Rattle.rpki_cli.specs.Call.{placing, staging}
use Rattle.rpki_cli.proofs.PutLaws.{but-fail, but-place, but-stage, but-start, but-take, but-unstaged}
use Rattle.rpki_cli.proofs.PutLaws.{half-printed, has-failed, left-of, left_if, not-both, not-left}
use Rattle.rpki_cli.proofs.put.print_with.Goals as goal

pub returns-in_default-clause-put : goal.returns-in_default-clause-put
returns-in_default-clause-put g c = λ k.
    let name = c.args.metrics.now in
    let old = g.M.Machine.world c.args.m.now in
    let new = g.M.Machine.world c.stage.new.self in
    let (more, but, apart, aside) = but-unstaged old [] old new [] name name (but-start old)
    (c.in_default.ensures.none k) in (
      name,
      refl,
      left-of old (more ++ []) new _ _ _ _ (staging name) but tt (not-both more [] name apart (λ z. z))
          (has-failed old more [] new (staging name) but.failed),
    )

pub returns-then-not-place-clause-put : goal.returns-then-not-place-clause-put
returns-then-not-place-clause-put g c = λ k.
    let name = c.args.metrics.now in
    let old = g.M.Machine.world c.args.m.now in
    let new = g.M.Machine.world c.take_away.new.self in
    let staged = c.in-Some.ensures.some k in
    let known = c.stage.ensures.known k in
    let beside = string_bytes c.in-Some.beside in
    let failed = c.if-not-place.ensures.no known refl in
    let later = c.place.ensures.known known in
    let taken = c.take_away.result in
    let but = but-take old [] [] _ new _ beside taken
    (but-fail old [] (beside ∷ []) _ _ [] (placing name) (but-stage old [] old _ [] name name beside _ (but-start old)
    staged) failed)
    (rw c.as_str-then-not-place.ensures.value at c.take_away.ensures.yes later)
    (rw c.as_str-then-not-place.ensures.value at c.take_away.ensures.no later) in (
      name,
      refl,
      left-of old (left_if taken beside ++ []) new _ _ _ _ (placing name) but tt
          (not-both (left_if taken beside) [] name (not-left taken beside name staged.apart) (λ z. z))
          (has-failed old (left_if taken beside) [] new (placing name) but.failed),
    )

pub returns-clause-put : goal.returns-clause-put
returns-clause-put g c = λ k.
    let name = c.args.metrics.now in
    let old = g.M.Machine.world c.args.m.now in
    let staged = c.in-Some.ensures.some k in
    let known = c.stage.ensures.known k in
    let beside = string_bytes c.in-Some.beside in
    let placed = rw c.as_str.ensures.value at c.if-not-place.ensures.yes known refl in
    let but = but-place old [] [] _ _ [] beside name (but-stage old [] old _ [] name name beside _ (but-start old)
    staged) (λ e. staged.apart (sym e)) placed in
    half-printed old _ _ _ name _ but (placed.there ∙ staged.there)
    (c.print.ensures.no (c.place.ensures.known known) c.if-print.false)

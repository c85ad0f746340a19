use Rattle.std.proofs.Common.{[], ◌∷◌, ◌++◌, refl, string_bytes}
use Rattle.rpki_cli.specs.Call.{placing, staging}
use Rattle.rpki_cli.proofs.PutLaws.{but-fail, but-stage, but-start, but-take, but-unstaged}
use Rattle.rpki_cli.proofs.PutLaws.{has-failed, left-of, left_if, not-both, not-left}
use Rattle.rpki_cli.proofs.put.put_text.Goals as goal

pub returns-in_default-clause-put : goal.returns-in_default-clause-put
returns-in_default-clause-put g c = λ k counts.
    let name = c.args.output.now in
    let old = g.M.Machine.world c.args.m.now in
    let new = g.M.Machine.world c.stage.new.self in
    let (more, but, apart, aside) = but-unstaged old [] old new [] name name (but-start old)
    (c.in_default.ensures.none k) in (
      name,
      refl,
      left-of old (more ++ []) new _ _ _ _ (staging name) but (not-both more [] name apart (λ z. z)) tt
          (has-failed old more [] new (staging name) but.failed),
    )

pub returns-then-not-place-clause-put : goal.returns-then-not-place-clause-put
returns-then-not-place-clause-put g c = λ k counts.
    let name = c.args.output.now in
    let old = g.M.Machine.world c.args.m.now in
    let new = g.M.Machine.world c.take_away.new.self in
    let staged = c.in-Some.ensures.some k in
    let known = c.stage.ensures.known k in
    let beside = string_bytes c.in-Some.beside in
    let failed = c.if-not-place.ensures.no known refl in
    let later = c.place.ensures.known known in
    let taken = c.take_away.result in
    let but = but-take old [] [] _ new _ beside taken
    (but-fail old [] (beside ∷ []) _ _ [] (placing name) (but-stage old [] old _ [] name name beside _ (but-start old)
    staged) failed)
    (rw c.as_str-then-not-place.ensures.value at c.take_away.ensures.yes later)
    (rw c.as_str-then-not-place.ensures.value at c.take_away.ensures.no later) in
    left-of old (left_if taken beside ++ []) new _ _ _ _ (placing name) but
    (not-both (left_if taken beside) [] name (not-left taken beside name staged.apart) (λ z. z)) tt
    (has-failed old (left_if taken beside) [] new (placing name) but.failed)

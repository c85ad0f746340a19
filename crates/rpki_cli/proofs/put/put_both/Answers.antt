use Rattle.std.proofs.Common.{◌∙◌, [], ◌∷◌, ◌++◌, refl, string_bytes, sym}
use Rattle.rpki_cli.specs.Call.{placing, staging}
use Rattle.rpki_cli.proofs.PutLaws.{but-fail, but-last, but-place, but-stage, but-start, but-swap, but-take}
use Rattle.rpki_cli.proofs.PutLaws.{but-unstaged, half-of, has-failed, kept-by, left-of, left_if, not-both, not-left}
use Rattle.rpki_cli.proofs.put.put_both.Goals as goal

pub returns-in_default-clause-put : goal.returns-in_default-clause-put
returns-in_default-clause-put g c = λ k.
    let name = c.args.output.now in
    let other = c.args.metrics.now in
    let old = g.M.Machine.world c.args.m.now in
    let new = g.M.Machine.world c.stage.new.self in
    let (more, but, apart, aside) = but-unstaged old [] old new [] name other (but-start old)
    (c.in_default.ensures.none k) in (
      name,
      refl,
      left-of old (more ++ []) new _ _ _ _ (staging name) but (not-both more [] name apart (λ z. z))
          (not-both more [] other aside (λ z. z)) (has-failed old more [] new (staging name) but.failed),
    )

pub returns-in_default-stage-clause-put : goal.returns-in_default-stage-clause-put
returns-in_default-stage-clause-put g c = λ k.
    let name = c.args.output.now in
    let other = c.args.metrics.now in
    let old = g.M.Machine.world c.args.m.now in
    let mid = g.M.Machine.world c.stage-2.new.self in
    let new = g.M.Machine.world c.take_away.new.self in
    let staged = c.in-Some.ensures.some k in
    let known = c.stage.ensures.known k in
    let later = c.stage-2.ensures.known known in
    let first = string_bytes c.in-Some.first in
    let taken = c.take_away.result in
    let (more, but, apart, aside) = but-unstaged old (first ∷ []) _ mid [] other name (but-stage old [] old _ [] name
    other first _ (but-start old) staged) (c.in_default-stage.ensures.none known) in
    let ends = but-take old [] more mid new _ first taken (but-last old [] more first mid _ but)
    (rw c.as_str.ensures.value at c.take_away.ensures.yes later)
    (rw c.as_str.ensures.value at c.take_away.ensures.no later) in (
      other,
      refl,
      left-of old (left_if taken first ++ more) new _ _ _ _ (staging other) ends
          (not-both (left_if taken first) more name (not-left taken first name staged.apart) aside)
          (not-both (left_if taken first) more other (not-left taken first other staged.other_apart) apart)
          (has-failed old (left_if taken first) more new (staging other) ends.failed),
    )

pub returns-then-not-place-clause-put : goal.returns-then-not-place-clause-put
returns-then-not-place-clause-put g c = λ k.
    let name = c.args.output.now in
    let other = c.args.metrics.now in
    let old = g.M.Machine.world c.args.m.now in
    let staged = c.in-Some.ensures.some k in
    let known = c.stage.ensures.known k in
    let also = c.in-Some-stage.ensures.some known in
    let known-2 = c.stage-2.ensures.known known in
    let failed = c.if-not-place.ensures.no known-2 refl in
    let known-3 = c.place.ensures.known known-2 in
    let known-4 = c.take_away-then-not-place.ensures.known known-3 in
    let new = g.M.Machine.world c.take_away-then-not-place-2.new.self in
    let first = string_bytes c.in-Some.first in
    let second = string_bytes c.in-Some-stage.second in
    let t = c.take_away-then-not-place.result in
    let u = c.take_away-then-not-place-2.result in
    let start = but-stage old [] old _ [] name other first _ (but-start old) staged in
    let two = but-stage old (first ∷ []) _ _ [] other name second _ start also in
    let fell = but-fail old [] (second ∷ first ∷ []) _ _ [] (placing other) two failed in
    let one = but-take old [] (second ∷ []) _ _ _ first t (but-swap old [] second first _ _ fell)
    (rw c.as_str-then-not-place.ensures.value at c.take_away-then-not-place.ensures.yes known-3)
    (rw c.as_str-then-not-place.ensures.value at c.take_away-then-not-place.ensures.no known-3) in
    let ends = but-take old [] (left_if t first) _ new _ second u (but-last old [] (left_if t first) second _ _ one)
    (rw c.as_str-then-not-place-2.ensures.value at c.take_away-then-not-place-2.ensures.yes known-4)
    (rw c.as_str-then-not-place-2.ensures.value at c.take_away-then-not-place-2.ensures.no known-4) in (
      other,
      refl,
      left-of old (left_if u second ++ left_if t first) new _ _ _ _ (placing other) ends
          (not-both (left_if u second) (left_if t first) name (not-left u second name also.other_apart)
          (not-left t first name staged.apart))
          (not-both (left_if u second) (left_if t first) other (not-left u second other also.apart)
          (not-left t first other staged.other_apart))
          (has-failed old (left_if u second) (left_if t first) new (placing other) ends.failed),
    )

pub returns-then-not-place-2-clause-put : goal.returns-then-not-place-2-clause-put
returns-then-not-place-2-clause-put g c = λ k.
    let name = c.args.output.now in
    let other = c.args.metrics.now in
    let old = g.M.Machine.world c.args.m.now in
    let staged = c.in-Some.ensures.some k in
    let known = c.stage.ensures.known k in
    let also = c.in-Some-stage.ensures.some known in
    let known-2 = c.stage-2.ensures.known known in
    let placed = rw c.as_str-2.ensures.value at c.if-not-place.ensures.yes known-2 refl in
    let known-3 = c.place.ensures.known known-2 in
    let failed = c.if-not-place-2.ensures.no known-3 refl in
    let known-4 = c.place-2.ensures.known known-3 in
    let new = g.M.Machine.world c.take_away-then-not-place-2-2.new.self in
    let first = string_bytes c.in-Some.first in
    let second = string_bytes c.in-Some-stage.second in
    let t = c.take_away-then-not-place-2-2.result in
    let start = but-stage old [] old _ [] name other first _ (but-start old) staged in
    let two = but-stage old (first ∷ []) _ _ [] other name second _ start also in
    let there = but-place old [] (first ∷ []) _ _ [] second other two (λ e. also.apart (sym e)) placed in
    let fell = but-fail old (other ∷ []) (first ∷ []) _ _ [] (placing name) there failed in
    let gone = rw c.as_str-then-not-place-2-2.ensures.value at c.take_away-then-not-place-2-2.ensures.yes known-4 in
    let stays = rw c.as_str-then-not-place-2-2.ensures.value at c.take_away-then-not-place-2-2.ensures.no known-4 in
    let ends = but-take old (other ∷ []) [] _ new _ first t fell gone stays in
    half-of old (left_if t first ++ []) new _ name _ other _ (placing name) ends c.requires
    (not-both (left_if t first) [] name (not-left t first name staged.apart) (λ z. z))
    (kept-by _ new first other t gone stays staged.other_apart ∙ failed.same other ∙ placed.there ∙ also.there)
    (has-failed old (left_if t first) [] new (placing name) ends.failed)

use Rattle.std.proofs.Common.{◌≡◌, ◌∙◌, true, map, refl, sym, ap}
use Rattle.std.specs.Prelude.{if◌then◌else◌, Some, None, string_bytes}
use Rattle.clap.specs.Walk.{is_empty}
use Rattle.clap.specs.Words.{app_of, fault_of, is_simple, is_simple_and_free, matches_of}
use Rattle.rpkicert.specs.Request.{command_app}
use Rattle.rpkicert.proofs.RequestLaws.{no-match}
use Rattle.rpkicert.proofs.request.matched.Goals as goal

pub returns-in-Ok : goal.returns-in-Ok
returns-in-Ok c =
    let words = map string_bytes c.args.words.now in
    let same = c.in_ok-command.ensures in
    let simple : is_simple (app_of c.in_ok-command.command) ≡ true = ap is_simple same ∙ refl in
    let free : is_simple_and_free (app_of c.in_ok-command.command) ≡ true = ap is_simple_and_free same ∙ refl in
    let rows = (c.in-Ok.ensures.matches simple).0 ∙ ap (λ a. matches_of a words) same in
    let none = ap (λ a. fault_of a words) (sym same) ∙ c.in-Ok.ensures.kinds free in
    ap (λ rows. Some rows) rows
    ∙ sym (ap (λ kinds. if is_empty kinds then Some (matches_of command_app words) else None) none)

pub returns : goal.returns
returns c =
    no-match _ (map string_bytes c.args.words.now) c.in-Err.e c.in-Err.ensures.kinds c.in_ok-command.ensures
    (λ k. c.in_default.not-OutOfMemory (c.kind.ensures ∙ k))

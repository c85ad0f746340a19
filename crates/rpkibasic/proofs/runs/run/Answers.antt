use Rattle.std.proofs.Common.{Ok, Err, map, refl, sym, ◌∙◌, string_bytes}
use Rattle.rpkibasic.proofs.SeenLaws.{answer-seen, no-words}
use Rattle.std.proofs.KnownBytes.{Appends-nil}
use Rattle.rpkibasic.proofs.runs.run.Goals as goal

pub returns-in-Ok-clause-reply : goal.returns-in-Ok-clause-reply
returns-in-Ok-clause-reply g c =
    let seen = rw c.as_slice.ensures.value at c.show.ensures in
    λ command named. answer-seen (map string_bytes c.args.words.now) c.in-Some.command command _ (Ok c.in-Ok.text.items)
    _ c.in-Some.ensures.named c.in-Ok.ensures seen named

pub returns-in-Err-clause-reply : goal.returns-in-Err-clause-reply
returns-in-Err-clause-reply g c =
    λ command named. answer-seen (map string_bytes c.args.words.now) c.in-Some.command command _ (Err c.in-Err.fault) _
    c.in-Some.ensures.named c.in-Err.ensures (Appends-nil _, c.refuse.ensures.told, c.refuse.ensures.status) named

pub returns-in-None-clause-usage : goal.returns-in-None-clause-usage
returns-in-None-clause-usage g c =
    λ other. rw (no-words string_bytes c.args.words.now (sym c.is_empty.ensures ∙ c.if-is_empty.true))
    c.show-in-None.ensures

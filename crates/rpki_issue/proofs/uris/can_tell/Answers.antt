use Rattle.rpki_issue.proofs.UriLaws.{can-tell}
use Rattle.rpki_issue.proofs.uris.can_tell.Goals as goal

pub returns-in-Some : goal.returns-in-Some
returns-in-Some c =
    let s = c.as_slice.ensures in
    rw c.in-Some.is (can-tell c.in-Some.uri.now c.as_slice.result.now s.text s.parses_again)

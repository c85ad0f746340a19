use Rattle.rpki_issue.proofs.UriLaws.{can-point}
use Rattle.rpki_issue.proofs.uris.can_point.Goals as goal

pub returns : goal.returns
returns c =
    let s = c.as_slice.ensures in can-point c.args.uri.now c.as_slice.result.now s.text s.form s.parses_again

use Rattle.rpki_cert.proofs.ProfileLaws.{below-there, is-empty}
use Rattle.rpki_cert.proofs.profile.uri_prefix.is_below.Goals as goal

pub returns-in-Some : goal.returns-in-Some
returns-in-Some c =
    let path = rw (c.in-Ok-from_slice.ensures.read.0, c.in-Ok.ensures.read.0) at c.in-Some.ensures.path in
    below-there _ _ _ _ c.in-Ok.ensures.read.1 c.in-Ok-from_slice.ensures.read.1 path (is-empty _ _ c.is_empty.ensures)

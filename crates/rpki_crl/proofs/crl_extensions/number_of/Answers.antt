use Rattle.rpki_der.proofs.InsideLaws.{unless-memory}
use Rattle.rpki_crl.proofs.crl_extensions.number_of.Goals as goal

pub returns-in-Ok-clause-only : goal.returns-in-Ok-clause-only
returns-in-Ok-clause-only c m h = let d = rw c.octets.ensures at c.in-Ok.ensures in d.1 m h.content

pub returns-in-Err-clause-none : goal.returns-in-Err-clause-none
returns-in-Err-clause-none c n h =
    let d = rw c.octets.ensures at c.in-Err.ensures in
    unless-memory c.in-Err.field-0 d.1.other d.0 n h.content

use Rattle.rpki_der.proofs.FirstFaultLaws.{whole-no-memory}
use Rattle.rpki_der.proofs.InsideLaws.{unless-memory}
use Rattle.rpki_x509.specs.Authority.{SpellsAuthority}
use Rattle.rpki_crl.proofs.ExtensionsLaws.{authority-no-memory}
use Rattle.rpki_crl.proofs.crl_extensions.authority_of.Goals as goal
use Rattle.rpki_x509.specs.Authority.{authority_content}

pub returns-in-Ok-clause-only : goal.returns-in-Ok-clause-only
returns-in-Ok-clause-only c j h = let d = rw (c.from_slice.ensures, c.octets.ensures)
    at c.in-Ok.ensures in d.1 j h.content

pub returns-in-Err-clause-none : goal.returns-in-Err-clause-none
returns-in-Err-clause-none c k h =
    let d = rw (c.from_slice.ensures, c.octets.ensures) at c.in-Err.ensures in
    let octets = c.args.extension.now.content in
    let never = authority-no-memory octets in
    unless-memory c.in-Err.field-0
    (whole-no-memory SpellsAuthority authority_content.fault octets c.in-Err.field-0 never d.1) d.0 k h.content

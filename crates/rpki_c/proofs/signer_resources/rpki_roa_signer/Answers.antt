use Rattle.std.proofs.Common.{inl, inr, refl}
use Rattle.std.proofs.lemmas.Bool.{iff_false}
use Rattle.rpki_c.proofs.CertificateLaws.{listed}
use Rattle.rpki_c.proofs.signer_resources.rpki_roa_signer.Goals as goal

pub returns-then-lists_addresses : goal.returns-then-lists_addresses
returns-then-lists_addresses c =
    let (x, cert, has) = c.in-Ok.ensures.ok in
    let said = c.lists_addresses.ensures x.tbs.extensions (listed cert) in
    inr (x, c.in-Ok.read.1, has, inl (refl, said.0 c.if-lists_addresses.true))

pub returns-else-lists_addresses : goal.returns-else-lists_addresses
returns-else-lists_addresses c =
    let (x, cert, has) = c.in-Ok.ensures.ok in
    let said = c.lists_addresses.ensures x.tbs.extensions (listed cert) in
    inr (x, c.in-Ok.read.1, has, inr (refl, iff_false said c.if-lists_addresses.false))

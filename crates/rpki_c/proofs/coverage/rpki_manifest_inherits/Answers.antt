use Rattle.std.proofs.Common.{inl, inr, refl}
use Rattle.std.proofs.lemmas.Bool.{iff_false}
use Rattle.rpki_c.proofs.CertificateLaws.{listed}
use Rattle.rpki_c.proofs.coverage.rpki_manifest_inherits.Goals as goal

pub returns-then-are_inherited : goal.returns-then-are_inherited
returns-then-are_inherited c =
    let (x, cert, has) = c.in-Ok.ensures.ok in
    let said = c.are_inherited.ensures x.tbs.extensions (listed cert) in
    inr (x, c.in-Ok.read.1, has, inl (refl, said.0 c.if-are_inherited.true))

pub returns-else-are_inherited : goal.returns-else-are_inherited
returns-else-are_inherited c =
    let (x, cert, has) = c.in-Ok.ensures.ok in
    let said = c.are_inherited.ensures x.tbs.extensions (listed cert) in
    inr (x, c.in-Ok.read.1, has, inr (refl, iff_false said c.if-are_inherited.false))

use Rattle.std.proofs.Common.{Some}
use Rattle.rpki_x509.specs.Authority.{WholeFault}
use Rattle.rpki_cert.proofs.ProfileLaws.{found-wrong}
use Rattle.rpki_cert.proofs.profile.checks.inspect_said.Goals as goal

pub returns-in-Err : goal.returns-in-Err
returns-in-Err g c = λ found h.
    let content = g.T.ExtensionContent.content in
    let wrong = rw c.in-Err.is at h in
    found-wrong _ content.spells (WholeFault content) c.args.broken found _ _ wrong (λ k. (Some k.0, k.1))

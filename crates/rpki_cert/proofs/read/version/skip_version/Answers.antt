use Rattle.std.proofs.Common.{rules, true}
use Rattle.rpki_der.specs.FirstFault.{FirstFault, IsEndFault}
use Rattle.rpki_der.proofs.FirstFaultLaws.{read-parts-inside, reads-one-part}
use Rattle.rpki_cert.specs.Cert.{version_tag, SpellsTwo}
use Rattle.rpki_cert.proofs.read.version.skip_version.Goals as goal
use Rattle.rpki_cert.specs.Cert.{two_value}

pub returns : goal.returns
returns c =
    let is = rw c.new.ensures at c.in_constructed.ensures in
    read-parts-inside (λ _. tt) version_tag true SpellsTwo (FirstFault SpellsTwo two_value.fault (λ v. IsEndFault)) _
    (λ b a x h. reads-one-part (λ _. tt) SpellsTwo two_value.fault _ _ x (search rules)) _ _ _ is

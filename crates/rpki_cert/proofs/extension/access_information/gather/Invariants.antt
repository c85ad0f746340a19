use Rattle.std.proofs.Common.{length}
use Rattle.rpki_der.specs.Cursor.{left}
use Rattle.rpki_cert.specs.Access.{SpellsDescription}
use Rattle.rpki_cert.specs.AccessInformation.{access_parts, joined}
use Rattle.rpki_cert.proofs.GatherLaws.{Gathers}
use Rattle.rpki_cert.proofs.InformationLaws.{kept}
use Rattle.rpki_cert.proofs.extension.access_information.gather.Given as goal

abbrev pub invariant-descriptions : goal.invariant-descriptions
invariant-descriptions l = Gathers SpellsDescription access_parts
    (λ u. joined (kept l.found.0 l.found.1.0 l.found.1.1.0 l.found.1.1.1.0 l.found.1.1.1.1.0 l.found.1.1.1.1.1.0
    l.found.1.1.1.1.1.1.0) u) (left l.fn.contents) (left l.rest)

abbrev pub decreases-descriptions : goal.decreases-descriptions
decreases-descriptions l = length (left l.rest)

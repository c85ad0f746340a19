use Rattle.rpkicert.proofs.RequirementsLaws.{inherited, origins, customer}
use Rattle.rpkicert.proofs.alone.hold_resources.Goals as goal

pub returns-in-Manifest : goal.returns-in-Manifest
returns-in-Manifest c =
    rw c.in-Manifest.is
    (inherited c.in-Manifest.manifest c.verify_own_manifest.result c.by.result
    c.verify_own_manifest.ensures c.by.ensures)

pub returns-in-Roa : goal.returns-in-Roa
returns-in-Roa c =
    rw c.in-Roa.is
    (origins c.in-Roa.origins c.verify_own_roa.result c.judged_by.result
    c.verify_own_roa.ensures c.judged_by.ensures)

pub returns-in-Aspa : goal.returns-in-Aspa
returns-in-Aspa c =
    rw c.in-Aspa.is
    (customer c.in-Aspa.attestation c.verify_own_aspa.result c.judged_by-in-Aspa.result
    c.verify_own_aspa.ensures c.judged_by-in-Aspa.ensures)

use Rattle.std.proofs.Common.{rules}
use Rattle.rpki_cert.specs.Access.{ca_repository, rpki_manifest}
use Rattle.rpki_cert.proofs.BelowLaws.{said-passes}
use Rattle.rpki_cert.proofs.profile.checks.has_manifest_below.Goals as goal

pub returns-in-Ok-Some-uri_in : goal.returns-in-Ok-Some-uri_in
returns-in-Ok-Some-uri_in c = λ found h.
    let base = rw c.in-Ok-Some.field-0-is at (c.in-Ok-Some.ensures found h) in
    let text = rw c.in-Ok-Some-uri_in.field-0-is at (c.in-Ok-Some-uri_in.ensures found h) in
    let below = c.lies_below.ensures (said-passes ca_repository found _ base)
    (said-passes rpki_manifest found _ text) in
    search (rules, below)

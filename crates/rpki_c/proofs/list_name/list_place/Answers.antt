use Rattle.std.proofs.Common.{sym, ◌∙◌}
use Rattle.std.specs.Option.{option_copied}
use Rattle.rpki_cert.specs.Access.{SpellsPoints}
use Rattle.rpki_cert.specs.Cert.{find}
use Rattle.rpki_cert.specs.Known.{crl_distribution_points}
use Rattle.rpki_c.proofs.CertificateLaws.{listed}
use Rattle.rpki_c.proofs.ListNameLaws.{critical-there, none-there, nothing-there, place-there}
use Rattle.rpki_c.proofs.list_name.list_place.Goals as goal

pub returns-in-None : goal.returns-in-None
returns-in-None c = λ s x at.
    none-there SpellsPoints (find crl_distribution_points x.tbs.extensions)
    (sym (c.in-None.ensures x.tbs.extensions (listed at)))

pub returns-then-critical : goal.returns-then-critical
returns-then-critical c = λ s x at.
    critical-there SpellsPoints (find crl_distribution_points x.tbs.extensions) c.in-Some.found
    (sym (c.in-Some.ensures x.tbs.extensions (listed at))) (sym c.critical.ensures ∙ c.if-critical.true)

pub returns-in-Ok : goal.returns-in-Ok
returns-in-Ok c = λ s x at.
    place-there SpellsPoints (find crl_distribution_points x.tbs.extensions) c.in-Some.found
    (sym (c.in-Some.ensures x.tbs.extensions (listed at))) (sym c.critical.ensures ∙ c.if-critical.false)
    (option_copied c.in-Ok.place) (rw c.octets.ensures at c.in-Ok.ensures)

pub returns-in-Err : goal.returns-in-Err
returns-in-Err c = λ s x at.
    nothing-there SpellsPoints (find crl_distribution_points x.tbs.extensions) c.in-Some.found
    (sym (c.in-Some.ensures x.tbs.extensions (listed at))) (sym c.critical.ensures ∙ c.if-critical.false)
    (rw c.octets.ensures at c.in-Err.ensures)

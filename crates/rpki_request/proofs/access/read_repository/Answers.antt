use Rattle.std.proofs.Common.{◌≡◌, true}
use Rattle.rpki_der.proofs.InsideLaws.{unless-memory}
use Rattle.rpki_der.specs.Reading.{SpellsNothing}
use Rattle.rpki_request.specs.Request.{view_parts, descriptions_in, access, IsRepository}
use Rattle.rpki_request.proofs.StandsLaws.{stands-through}
use Rattle.rpki_request.proofs.access.read_repository.Goals as goal

pub returns-in-Ok : goal.returns-in-Ok
returns-in-Ok c =
    stands-through view_parts IsRepository access.spells c.args.octets.now (descriptions_in c.in-Ok.all.items)
    c.in-Ok.ensures.0 c.in-Ok.ensures.1 c.repository_of.result (rw c.deref.ensures.value at c.repository_of.ensures)

pub returns-else-is_memory : goal.returns-else-is_memory
returns-else-is_memory c = λ v h.
    let none : SpellsNothing access.spells c.args.octets.now = unless-memory c.in-Err.e
    (λ z. let t : c.is_memory.result ≡ true = c.is_memory.ensures.1 z in cc) c.in-Err.ensures.0 in
    none h.value h.spelled

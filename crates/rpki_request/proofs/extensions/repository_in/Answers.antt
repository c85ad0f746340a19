use Rattle.std.proofs.Common.{false, sym, ◌∙◌}
use Rattle.rpki_cert.specs.Known.{subject_info_access}
use Rattle.rpki_request.specs.Request.{view_parts, SpellsRepository}
use Rattle.rpki_request.proofs.StandsLaws.{stands-found}
use Rattle.rpki_request.proofs.extensions.repository_in.Goals as goal

pub returns-else-critical : goal.returns-else-critical
returns-else-critical c =
    stands-found view_parts subject_info_access false SpellsRepository c.args.all.now c.in-Some.extension.now
    c.in-Some.ensures.some (sym c.critical.ensures ∙ c.if-critical.false) c.read_repository.result
    (rw c.octets.ensures at c.read_repository.ensures)

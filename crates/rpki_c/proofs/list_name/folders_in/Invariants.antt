use Rattle.std.proofs.Common.{length}
use Rattle.std.specs.Option.{option_or, option_copied}
use Rattle.rpki_der.specs.Prelude.{left}
use Rattle.rpki_cert.specs.Access.{SpellsDescription}
use Rattle.rpki_cert.proofs.GatherLaws.{Gathers}
use Rattle.rpki_c.specs.ListName.{first_folder}
use Rattle.rpki_c.proofs.list_name.folders_in.Given as goal

abbrev pub invariant-folders : goal.invariant-folders
invariant-folders l =
    Gathers SpellsDescription first_folder (λ u. option_or (option_copied l.found) u) (left l.fn.descriptions)
    (left l.rest)

abbrev pub decreases-folders : goal.decreases-folders
decreases-folders l = length (left l.rest)

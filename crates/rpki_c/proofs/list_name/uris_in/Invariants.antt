use Rattle.std.proofs.Common.{length}
use Rattle.std.specs.Option.{option_or, option_copied}
use Rattle.rpki_der.specs.Prelude.{left}
use Rattle.rpki_cert.specs.Access.{SpellsUri, first_rsync}
use Rattle.rpki_cert.proofs.GatherLaws.{Gathers}
use Rattle.rpki_c.proofs.list_name.uris_in.Given as goal

abbrev pub invariant-uris : goal.invariant-uris
invariant-uris l =
    Gathers SpellsUri first_rsync (λ u. option_or (option_copied l.found) u) (left l.fn.names) (left l.rest)

abbrev pub decreases-uris : goal.decreases-uris
decreases-uris l = length (left l.rest)

use Rattle.std.proofs.Common.{length}
use Rattle.std.specs.Prelude.{◌||◌}
use Rattle.rpki_der.specs.Cursor.{left}
use Rattle.rpki_cert.specs.ExtensionContent.{SpellsPurpose, has_router}
use Rattle.rpki_cert.proofs.GatherLaws.{Gathers}
use Rattle.rpki_cert.proofs.extension.purposes.purposes_in.Given as goal

abbrev pub invariant-purposes : goal.invariant-purposes
invariant-purposes l = Gathers SpellsPurpose has_router (λ b. l.router || b) (left l.fn.contents) (left l.rest)

abbrev pub decreases-purposes : goal.decreases-purposes
decreases-purposes l = length (left l.rest)

use Rattle.std.proofs.Common.{false, Some, None, refl}
use Rattle.std.specs.Option.{option_copied}
use Rattle.rpki_cert.specs.Access.{SpellsPoints}
use Rattle.rpki_cert.proofs.KnownLaws.{only-none, only-value, given-wrong}
use Rattle.rpki_cert.proofs.extension.accessors.points_in.Goals as goal

pub returns-in-Ok : goal.returns-in-Ok
returns-in-Ok c = (
  Some (option_copied c.in-Ok.found),
  only-value false SpellsPoints c.args.found c.in-Ok-Some.extension
      (option_copied c.in-Ok.found) (rw c.in-Ok-Some.field-0-is at c.in-Ok-Some.ensures.some)
      (rw (c.from_slice.ensures, c.octets.ensures) at c.in-Ok.ensures.gives),
  refl,
)

pub returns-in-Err-read_points : goal.returns-in-Err-read_points
returns-in-Err-read_points c =
    given-wrong false SpellsPoints c.args.found c.in-Ok-Some.extension c.in-Err-read_points.e
    (rw c.in-Ok-Some.field-0-is at c.in-Ok-Some.ensures.some)
    (rw (c.from_slice.ensures, c.octets.ensures) at c.in-Err-read_points.ensures.gives)
    c.in-Err-read_points.ensures.kind

pub returns-in-Ok-None : goal.returns-in-Ok-None
returns-in-Ok-None c = (
  None,
  only-none false SpellsPoints c.args.found
      (rw c.in-Ok-None.field-0-is at c.in-Ok-None.ensures.none),
  refl,
)

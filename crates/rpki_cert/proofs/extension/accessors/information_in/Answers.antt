use Rattle.std.proofs.Common.{false}
use Rattle.rpki_cert.specs.Access.{SpellsAccess}
use Rattle.rpki_cert.specs.AccessInformation.{access_parts, parts_of}
use Rattle.rpki_cert.proofs.KnownLaws.{only-none, only-value, given-wrong}
use Rattle.rpki_cert.proofs.extension.accessors.information_in.Goals as goal

pub returns-in-Ok : goal.returns-in-Ok
returns-in-Ok c =
    only-value false (SpellsAccess access_parts) c.args.found c.in-Ok-Some.extension (parts_of c.in-Ok.found)
    (rw c.in-Ok-Some.field-0-is at c.in-Ok-Some.ensures.some)
    (rw (c.from_slice.ensures, c.octets.ensures) at c.in-Ok.ensures.gives)

pub returns-in-Err-read : goal.returns-in-Err-read
returns-in-Err-read c =
    given-wrong false (SpellsAccess access_parts) c.args.found c.in-Ok-Some.extension c.in-Err-read.e
    (rw c.in-Ok-Some.field-0-is at c.in-Ok-Some.ensures.some)
    (rw (c.from_slice.ensures, c.octets.ensures) at c.in-Err-read.ensures.gives) c.in-Err-read.ensures.kind

pub returns-in-Ok-None : goal.returns-in-Ok-None
returns-in-Ok-None c = only-none false (SpellsAccess access_parts) c.args.found
    (rw c.in-Ok-None.field-0-is at c.in-Ok-None.ensures.none)

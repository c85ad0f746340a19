use Rattle.std.proofs.Common.{false}
use Rattle.rpki_cert.specs.ExtensionContent.{SpellsPurposes}
use Rattle.rpki_cert.proofs.KnownLaws.{only-value, given-wrong}
use Rattle.rpki_cert.proofs.extension.accessors.purposes_in.Goals as goal

pub returns-in-Ok : goal.returns-in-Ok
returns-in-Ok c =
    only-value false SpellsPurposes c.args.found c.in-Ok-Some.extension c.in-Ok.found
    (rw c.in-Ok-Some.field-0-is at c.in-Ok-Some.ensures.some)
    (rw (c.from_slice.ensures, c.octets.ensures) at c.in-Ok.ensures.gives)

pub returns-in-Err-read_purposes : goal.returns-in-Err-read_purposes
returns-in-Err-read_purposes c =
    given-wrong false SpellsPurposes c.args.found c.in-Ok-Some.extension c.in-Err-read_purposes.e
    (rw c.in-Ok-Some.field-0-is at c.in-Ok-Some.ensures.some)
    (rw (c.from_slice.ensures, c.octets.ensures) at c.in-Err-read_purposes.ensures.gives)
    c.in-Err-read_purposes.ensures.kind

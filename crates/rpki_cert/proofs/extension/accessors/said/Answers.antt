use Rattle.rpki_cert.proofs.KnownLaws.{only-value, read-wrong}
use Rattle.rpki_cert.proofs.extension.accessors.said.Goals as goal

pub returns-in-Ok : goal.returns-in-Ok
returns-in-Ok g c =
    only-value _ g.T.ExtensionContent.content.spells _ c.in-Ok-Some.extension c.in-Ok.value
    (rw (c.in-Ok-Some.field-0-is, c.CRITICAL.ensures) at c.in-Ok-Some.ensures.some)
    (rw (c.from_slice.ensures, c.octets.ensures) at c.in-Ok.ensures)

pub returns-in-Err-value_of : goal.returns-in-Err-value_of
returns-in-Err-value_of g c =
    read-wrong _ g.T.ExtensionContent.content.spells _ g.T.ExtensionContent.content.fault c.in-Ok-Some.extension _
    (rw (c.in-Ok-Some.field-0-is, c.CRITICAL.ensures) at c.in-Ok-Some.ensures.some)
    (g.met.T.ExtensionContent.no_memory _)
    (rw (c.from_slice.ensures, c.octets.ensures) at c.in-Err-value_of.ensures)

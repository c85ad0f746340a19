use Rattle.std.proofs.Common.{Ok, Err, rules, true}
use Rattle.rpki_der.proofs.InsideLaws.{read-whole}
use Rattle.rpki_resources.specs.Extension.{SpellsIpResources, IsIpResourcesFault}
use Rattle.rpki_resources.proofs.NoMemoryLaws.{ip-no-memory}
use Rattle.rpki_cert.proofs.KnownLaws.{only-value, read-wrong}
use Rattle.rpki_cert.proofs.resource.extensions.ip_resources_in.Goals as goal

pub returns-in-Ok : goal.returns-in-Ok
returns-in-Ok c =
    only-value true SpellsIpResources c.args.found c.in-Ok-Some.extension c.in-Ok.found
    (rw c.in-Ok-Some.field-0-is at c.in-Ok-Some.ensures.some)
    (read-whole (λ x. x) SpellsIpResources IsIpResourcesFault _ (λ b a x h. search rules) _ (Ok c.in-Ok.found)
    (rw (c.from_slice.ensures, c.octets.ensures) at c.in-Ok.ensures))

pub returns-in-Err-value : goal.returns-in-Err-value
returns-in-Err-value c =
    read-wrong true SpellsIpResources c.args.found IsIpResourcesFault c.in-Ok-Some.extension c.in-Err-value.e
    (rw c.in-Ok-Some.field-0-is at c.in-Ok-Some.ensures.some) (λ h. ip-no-memory c.in-Ok-Some.extension.content h)
    (read-whole (λ x. x) SpellsIpResources IsIpResourcesFault _ (λ b a x h. search rules) _ (Err c.in-Err-value.e)
    (rw (c.from_slice.ensures, c.octets.ensures) at c.in-Err-value.ensures))

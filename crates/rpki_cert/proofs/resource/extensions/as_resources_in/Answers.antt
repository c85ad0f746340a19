use Rattle.std.proofs.Common.{Ok, Err, rules, true}
use Rattle.rpki_der.proofs.InsideLaws.{read-whole}
use Rattle.rpki_resources.specs.Extension.{SpellsAsResources, IsAsResourcesFault}
use Rattle.rpki_resources.proofs.NoMemoryLaws.{as-no-memory}
use Rattle.rpki_cert.proofs.KnownLaws.{only-value, read-wrong}
use Rattle.rpki_cert.proofs.resource.extensions.as_resources_in.Goals as goal

pub returns-in-Ok : goal.returns-in-Ok
returns-in-Ok c =
    only-value true SpellsAsResources c.args.found c.in-Ok-Some.extension c.in-Ok.found
    (rw c.in-Ok-Some.field-0-is at c.in-Ok-Some.ensures.some)
    (read-whole (λ x. x) SpellsAsResources IsAsResourcesFault _ (λ b a x h. search rules) _ (Ok c.in-Ok.found)
    (rw (c.from_slice.ensures, c.octets.ensures) at c.in-Ok.ensures))

pub returns-in-Err-value : goal.returns-in-Err-value
returns-in-Err-value c =
    read-wrong true SpellsAsResources c.args.found IsAsResourcesFault c.in-Ok-Some.extension c.in-Err-value.e
    (rw c.in-Ok-Some.field-0-is at c.in-Ok-Some.ensures.some) (λ h. as-no-memory c.in-Ok-Some.extension.content h)
    (read-whole (λ x. x) SpellsAsResources IsAsResourcesFault _ (λ b a x h. search rules) _ (Err c.in-Err-value.e)
    (rw (c.from_slice.ensures, c.octets.ensures) at c.in-Err-value.ensures))

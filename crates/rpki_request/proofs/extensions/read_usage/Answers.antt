use Rattle.std.proofs.Common.{◌≢◌, ℕ, List, rules, subst}
use Rattle.rpki_der.specs.declared.error.DecodeError.{DecodeError}
use Rattle.rpki_der.specs.declared.error.DecodeError.TheVariants.{OutOfMemory}
use Rattle.rpki_der.proofs.InsideLaws.{read-whole-exactly}
use Rattle.rpki_cert.specs.ExtensionContent.{usage_content}
use Rattle.rpki_cert.specs.ContentLaws.{usage-never}
use Rattle.rpki_request.proofs.extensions.read_usage.Goals as goal

never : (s : List ℕ) (e : DecodeError) → usage_content.fault s e → e ≢ OutOfMemory
never s e h z = usage-never s (subst (usage_content.fault s) z h)

pub returns : goal.returns
returns c =
    read-whole-exactly (λ u. u) usage_content.spells usage_content.fault never _ (λ b a x h. search rules) _ _
    (rw c.from_slice.ensures at c.whole.ensures)

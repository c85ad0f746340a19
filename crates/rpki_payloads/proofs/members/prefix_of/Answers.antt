use Rattle.std.proofs.Common.{◌∙◌, List, ℕ, subst, sym}
use Rattle.rpki_resources.specs.IpRead.{IsPrefixText}
use Rattle.rpki_payloads.proofs.FindsLaws.{the-same}
use Rattle.rpki_payloads.proofs.members.prefix_of.Goals as goal

pub returns-in-Err : goal.returns-in-Err
returns-in-Err c = λ p h.
    c.in-Err.ensures.value p
    (subst (λ (t : List ℕ). IsPrefixText t p) (the-same (sym h.1 ∙ sym (rw c.in-Some.is at c.as_str.ensures))) h.2)

use Rattle.std.proofs.Common.{◌↔◌, Bool, true, false, IsTrue}
use Rattle.std.specs.Prelude.{◌&&◌}
use Rattle.std.proofs.lemmas.Bool.Decides.{Decides-int_eq}
use Rattle.jiff.specs.Words.{civil_nanos}
use Rattle.rpki_time.proofs.laws.equal_periods_are_one.Goals as goal

both : (a b : Bool) {P Q : Type 0} → IsTrue a ↔ P → IsTrue b ↔ Q → IsTrue (a && b) ↔ (P × Q)
both true true h k = (λ z. (h.0 z, k.0 z), λ z. h.1 z.0)
both true false h k = (λ z. absurd (let w = z in cc), λ z. k.1 z.1)
both false b h k = (λ z. absurd (let w = z in cc), λ z. h.1 z.0)

pub returns : goal.returns
returns c = λ p q.
    both _ _ (Decides-int_eq (civil_nanos p.not_before) (civil_nanos q.not_before))
    (Decides-int_eq (civil_nanos p.not_after) (civil_nanos q.not_after))

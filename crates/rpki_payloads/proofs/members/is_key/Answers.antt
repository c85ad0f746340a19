use Rattle.std.proofs.Common.{◌≡◌, true, false}
use Rattle.rpki_der.proofs.ReadingLaws.{unless-memory}
use Rattle.rpki_payloads.proofs.members.is_key.Goals.{in-Ok, in-Err+in-OutOfMemory, in-Err+in_default}
use Rattle.rpki_payloads.proofs.members.is_key.Goals as goal

pub returns-clause-no : goal.returns-clause-no
returns-clause-no c =
    elim c.match-decode.branch [
      | in-Ok w ↦ rw w.result-is (λ e h. absurd (let both : true ≡ false = e in cc))
      | in-Err+in-OutOfMemory w ↦ rw w.result-is tt
      | in-Err+in_default w ↦ rw w.result-is (λ e h. unless-memory w.in-Err.e w.in_default.not-OutOfMemory
          (rw c.in_ok-clone.ensures.cases at w.in-Err.ensures).0 h.0 h.1)
    ]

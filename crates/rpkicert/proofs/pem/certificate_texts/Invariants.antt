use Rattle.std.proofs.Common.{◌≡◌, ◌++◌, drop, map}
use Rattle.rpkicert.specs.Pem.{certificate_texts}
use Rattle.rpkicert.proofs.pem.certificate_texts.Given as goal

-- the texts of those that begin in what was read, and of those that begin after it
abbrev pub invariant-loop-at : goal.invariant-loop-at
invariant-loop-at l = map (λ t. t.now) l.texts.items ++ certificate_texts (drop l.at l.text) ≡ certificate_texts l.text

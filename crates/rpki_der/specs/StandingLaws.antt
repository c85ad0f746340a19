-- Octets that are in others.
use Rattle.std.proofs.Common.{ℕ, List, ◌++◌, ap, ◌∙◌, sym, arith, length-append}
use Rattle.std.proofs.lemmas.List.{append_assoc}
use Rattle.rpki_der.specs.Standing.{StandsIn}

-- what follows a beginning is there too
pub rest-stands : {source : List ℕ} {end : ℕ} (front rest : List ℕ) → StandsIn source end (front ++ rest)
    → StandsIn source end rest
rest-stands front rest held = record {
  before = held.before ++ front;
  after = held.after;
  parts = held.parts ∙ ap (λ (x : List ℕ). held.before ++ x) (append_assoc front rest held.after) ∙ sym
      (append_assoc held.before front (rest ++ held.after));
  ends = omega (arith, held.ends, length-append front rest, length-append held.before front);
}

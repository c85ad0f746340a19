-- How a cut adds up.
use Rattle.std.proofs.Common.{ℕ, List, ◌∷◌, ◌++◌, Option, Result, Ok, Err, sym, ap, ◌∙◌, append_assoc}
use Rattle.std.specs.Io.KnownBytes.{Appends}
use Rattle.std.proofs.KnownBytes.{Appends-trans}
use Rattle.rpki_der.specs.Written.{WritesOrCuts}

-- the front, and then what the last call wrote
pub cut-then : {U E : Type 0} (a b c : Option (List ℕ)) (r : Result U E) (xs ys : List ℕ) → Appends a b xs
    → WritesOrCuts b c r ys → WritesOrCuts a c r (xs ++ ys)
cut-then a b c (Ok u) xs ys p q = Appends-trans a b c xs ys p q
cut-then a b c (Err e) xs ys p q = record {
  next = q.next;
  more = q.more;
  front = (
    xs ++ q.front.0,
    ap (λ (w : List ℕ). xs ++ w) q.front.1 ∙ sym (append_assoc xs q.front.0 (q.next ∷ q.more)),
    Appends-trans a b c xs q.front.0 p q.front.2,
  );
}

-- What octets end with.
use Rattle.std.proofs.Common.{◌≡◌, ◌-◌, ◌+◌, ℕ, List, ◌++◌, length, take, drop, sym, ap, subst, ◌∙◌, arith}
use Rattle.std.proofs.Common.{length-append}
use Rattle.std.proofs.lemmas.List.{append_assoc, drop_at, take-append-drop}
use Rattle.rpki_der.specs.Standing.{StandsBefore}

-- the octets end with r
abbrev pub IsEnd : List ℕ → List ℕ → Type 0
IsEnd s r = (front : List ℕ) × (s ≡ front ++ r)

pub end-there : (s r : List ℕ) (n : ℕ) → drop n s ≡ r → IsEnd s r
end-there s r n e = (take n s, sym (take-append-drop n s) ∙ ap (λ (x : List ℕ). take n s ++ x) e)

pub end-only : (s r : List ℕ) → IsEnd s r → drop (length s - length r) s ≡ r
end-only s r (front, e) =
    let size : length s ≡ length front + length r = ap length e ∙ length-append front r in
    subst (λ (x : List ℕ). drop (length s - length r) x ≡ r) (sym e)
    (drop_at front r (length s - length r) (omega arith))

pub end-of : (s part rest : List ℕ) → StandsBefore s part rest → IsEnd s rest
end-of s part rest h = (h.before ++ part, h.parts ∙ sym (append_assoc h.before part rest))

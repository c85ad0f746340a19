-- How what calls write adds up.
use Rattle.std.proofs.Common.{◌≡◌, ℕ, ◌-◌, List, [], ◌∷◌, ◌++◌, length, take, drop, Option, Some, None, Result, Ok, Err}
use Rattle.std.proofs.Common.{refl, sym, ap, ◌∙◌, arith, append_assoc, append-nil, length-drop}
use Rattle.std.specs.Io.KnownBytes.{Appends, Keeps}
use Rattle.std.proofs.KnownBytes.{Appends-trans, Appends-kept}
use Rattle.std.proofs.lemmas.List.{take-append-drop, take_all}
use Rattle.rpki_der.specs.Written.{AppendsAllBut, AppendsBeginning, AppendsCut, Writes, WritesOrCuts}

-- nothing was appended
keeps-none : (a b : Option (List ℕ)) → Appends a b [] → Keeps a b
keeps-none None b p = tt
keeps-none (Some x) None p = absurd p
keeps-none (Some x) (Some y) p = p ∙ append-nil x

pub keeps-take : (a b : Option (List ℕ)) (n : ℕ) (xs : List ℕ) → n ≡ 0 → Appends a b (take n xs) → Keeps a b
keeps-take a b n xs e p = keeps-none a b (let h : Appends a b (take 0 xs) = rw e at p in h)

pub all-but-then : (a b c : Option (List ℕ)) (octets rest ys rest' : List ℕ) → AppendsAllBut a b octets rest
    → rest ≡ ys ++ rest' → Appends b c ys → AppendsAllBut a c octets rest'
all-but-then a b c octets rest ys rest' p e q = (
  p.0 ++ ys,
  p.1 ∙ ap (λ (w : List ℕ). p.0 ++ w) e ∙ sym (append_assoc p.0 ys rest'),
  Appends-trans a b c p.0 ys p.2
      q,
)

pub cut-at : (n : ℕ) (xs : List ℕ) → xs ≡ take n xs ++ take (length xs - n) (drop n xs)
cut-at n xs = rw (take_all (length xs - n) (drop n xs) (omega (arith, length-drop n xs))) (sym (take-append-drop n xs))

-- what isn't empty has a first octet
pub cut-before : (a b c : Option (List ℕ)) (octets rest : List ℕ) → AppendsAllBut a b octets rest → (rest ≡ [] → ⊥)
    → Keeps b c → AppendsCut a c octets
cut-before a b c octets [] p ne k = absurd (ne refl)
cut-before a b c octets (x ∷ rest) p ne k =
    record { next = x; more = rest; front = (p.0, p.1, Appends-kept a b c p.0 p.2 k) }

pub beginning_of : (a b : Option (List ℕ)) (octets : List ℕ) → AppendsCut a b octets → AppendsBeginning a b octets
unfolding AppendsBeginning
beginning_of a b octets p = (p.next ∷ p.more, p.front)

-- a beginning that isn't all is a beginning
pub writes_of_cut : {U E : Type 0} (a b : Option (List ℕ)) (r : Result U E) (octets : List ℕ)
    → WritesOrCuts a b r octets → Writes a b r octets
writes_of_cut a b (Ok u) octets p = p
writes_of_cut a b (Err e) octets p = beginning_of a b octets p

-- a beginning of the front is a beginning of the whole
pub beginning_more : (a b : Option (List ℕ)) (xs ys : List ℕ) → AppendsBeginning a b xs
    → AppendsBeginning a b (xs ++ ys)
unfolding AppendsBeginning
beginning_more a b xs ys p = (p.0 ++ ys, (p.1.0, ap (λ (w : List ℕ). w ++ ys) p.1.1 ∙ append_assoc p.1.0 p.0 ys, p.1.2))

-- the front, and then a beginning of the rest
pub beginning_then : (a b c : Option (List ℕ)) (xs ys : List ℕ) → Appends a b xs → AppendsBeginning b c ys
    → AppendsBeginning a c (xs ++ ys)
unfolding AppendsBeginning
beginning_then a b c xs ys p q = (
  q.0,
  (
    xs ++ q.1.0,
    ap (λ (w : List ℕ). xs ++ w) q.1.1 ∙ sym (append_assoc xs q.1.0 q.0),
    Appends-trans a b c xs
        q.1.0 p q.1.2,
  ),
)

-- the front, and then what the last call wrote
pub writes_then : {U E : Type 0} (a b c : Option (List ℕ)) (r : Result U E) (xs ys : List ℕ) → Appends a b xs
    → Writes b c r ys → Writes a c r (xs ++ ys)
writes_then a b c (Ok u) xs ys p q = Appends-trans a b c xs ys p q
writes_then a b c (Err e) xs ys p q = beginning_then a b c xs ys p q

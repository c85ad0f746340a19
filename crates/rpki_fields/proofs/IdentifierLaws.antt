-- The subidentifiers of an object identifier, octet by octet.
use Rattle.std.proofs.Common.{◌≡◌, ◌+◌, ◌-◌, ◌*◌, ◌^◌, ◌<◌, ◌≤◌, ℕ, true, false, nat_lt, List, [], ◌∷◌, ◌++◌, length}
use Rattle.std.proofs.Common.{get_or, drop, refl, sym, ap, subst, ◌∙◌, append_assoc, arith}
use Rattle.std.proofs.Math.Seq.{drop-cons}
use Rattle.std.proofs.lemmas.Bool.{lt-ltb, le-ltb}
use Rattle.std.proofs.lemmas.List.{append-nil, drop_all}
use Rattle.std.specs.Prelude.{suc, Option, Some, None, option_map}
use Rattle.rpki_fields.specs.IdentifierText.{numbers_from}

unfolding-first : (n x : ℕ) (xs : List ℕ) → nat_lt n (2 ^ 56) ≡ true → nat_lt x 128 ≡ true
    → numbers_from n (x ∷ xs) ≡ option_map (λ ns. (n * 128 + x) ∷ ns) (numbers_from 0 xs)
unfolding numbers_from
unfolding-first n x xs h k = rw (h, k) refl

unfolding-later : (n x : ℕ) (xs : List ℕ) → nat_lt n (2 ^ 56) ≡ true → nat_lt x 128 ≡ false
    → numbers_from n (x ∷ xs) ≡ numbers_from (n * 128 + (x - 128)) xs
unfolding numbers_from
unfolding-later n x xs h k = rw (h, k) refl

unfolding-large : (n x : ℕ) (xs : List ℕ) → nat_lt n (2 ^ 56) ≡ false → numbers_from n (x ∷ xs) ≡ None
unfolding numbers_from
unfolding-large n x xs h = rw h refl

pub none-left : (n : ℕ) → numbers_from n [] ≡ Some []
unfolding numbers_from
none-left n = refl

behind : (ms : List ℕ) (m : ℕ) (o : Option (List ℕ))
    → option_map (λ ns. (ms ++ (m ∷ [])) ++ ns) o ≡ option_map (λ ns. ms ++ ns) (option_map (λ ns. m ∷ ns) o)
behind ms m None = refl
behind ms m (Some ns) = ap (λ (w : List ℕ). Some w) (append_assoc ms (m ∷ []) ns)

-- the next octet
next : (octets : List ℕ) (i : ℕ) → i < length octets → drop i octets ≡ get_or octets i 0 ∷ drop (i + 1) octets
next octets i lt = let e : suc i ≡ i + 1 = omega arith in subst
    (λ (k : ℕ). drop i octets ≡ get_or octets i 0 ∷ drop k octets) e (drop-cons octets i 0 lt)

-- an octet that ends a subidentifier
pub ended : (octets ms : List ℕ) (i n : ℕ) → i < length octets → n < 2 ^ 56 → get_or octets i 0 < 128
    → option_map (λ ns. ms ++ ns) (numbers_from n (drop i octets)) ≡ numbers_from 0 octets
    → option_map (λ ns. (ms ++ ((n * 128 + get_or octets i 0) ∷ [])) ++ ns) (numbers_from 0 (drop (i + 1) octets))
    ≡ numbers_from 0 octets
ended octets ms i n lt h k q =
    let x = get_or octets i 0 in
    behind ms (n * 128 + x) (numbers_from 0 (drop (i + 1) octets))
    ∙ ap (option_map (λ ns. ms ++ ns))
    (sym (unfolding-first n x (drop (i + 1) octets) (lt-ltb n (2 ^ 56) h) (lt-ltb x 128 k)))
    ∙ ap (λ w. option_map (λ ns. ms ++ ns) (numbers_from n w)) (sym (next octets i lt)) ∙ q

-- one that does not
pub going-on : (octets ms : List ℕ) (i n : ℕ) → i < length octets → n < 2 ^ 56 → 128 ≤ get_or octets i 0
    → option_map (λ ns. ms ++ ns) (numbers_from n (drop i octets)) ≡ numbers_from 0 octets
    → option_map (λ ns. ms ++ ns) (numbers_from (n * 128 + (get_or octets i 0 - 128)) (drop (i + 1) octets))
    ≡ numbers_from 0 octets
going-on octets ms i n lt h k q =
    let x = get_or octets i 0 in
    ap (option_map (λ ns. ms ++ ns))
    (sym (unfolding-later n x (drop (i + 1) octets) (lt-ltb n (2 ^ 56) h) (le-ltb x 128 k)))
    ∙ ap (λ w. option_map (λ ns. ms ++ ns) (numbers_from n w)) (sym (next octets i lt)) ∙ q

-- a subidentifier that is too large
pub too-large : (octets ms : List ℕ) (i n : ℕ) → i < length octets → 2 ^ 56 ≤ n
    → option_map (λ ns. ms ++ ns) (numbers_from n (drop i octets)) ≡ numbers_from 0 octets
    → None ≡ numbers_from 0 octets
too-large octets ms i n lt h q =
    let x = get_or octets i 0 in
    ap (option_map (λ ns. ms ++ ns)) (sym (unfolding-large n x (drop (i + 1) octets) (le-ltb n (2 ^ 56) h)))
    ∙ ap (λ w. option_map (λ ns. ms ++ ns) (numbers_from n w)) (sym (next octets i lt)) ∙ q

-- no octet remains
pub all-read : (octets ms : List ℕ) (i : ℕ) (n : ℕ) → length octets ≤ i
    → option_map (λ ns. ms ++ ns) (numbers_from n (drop i octets)) ≡ numbers_from 0 octets
    → Some ms ≡ numbers_from 0 octets
all-read octets ms i n le q =
    sym (ap (λ (w : List ℕ). Some w) (append-nil ms)) ∙ ap (option_map (λ ns. ms ++ ns)) (sym (none-left n))
    ∙ ap (λ w. option_map (λ ns. ms ++ ns) (numbers_from n w)) (sym (drop_all i octets le)) ∙ q

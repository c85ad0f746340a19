-- Lists that are written, item by item.
use Rattle.std.proofs.Common.{◌≡◌, ◌+◌, ℕ, Option, List, [], ◌∷◌, ◌++◌, length, length-append, refl, sym, ap, subst}
use Rattle.std.proofs.Common.{◌∙◌, arith}
use Rattle.rpki_der.specs.Written.{AppendsAllBut, AppendsBeginning}
use Rattle.rpki_der.proofs.WritingLaws.{beginning_then, beginning_more}
use Rattle.rpki_der.specs.Listed.{listed_octets, EachHas}

-- what the first item adds
pub first-octets : {T : Type 0} (octets : T → List ℕ) (rest xs : List T) (x : T) → rest ≡ x ∷ xs
    → listed_octets octets rest ≡ octets x ++ listed_octets octets xs
first-octets octets rest xs x is = ap (listed_octets octets) is

pub first-size : {T : Type 0} (octets : T → List ℕ) (rest xs : List T) (x : T) → rest ≡ x ∷ xs
    → length (listed_octets octets rest) ≡ length (octets x) + length (listed_octets octets xs)
first-size octets rest xs x is =
    ap length (first-octets octets rest xs x is) ∙ length-append (octets x) (listed_octets octets xs)

pub first-has : {T : Type 0} (P : T → Type 0) (rest xs : List T) (x : T) → rest ≡ x ∷ xs → EachHas P rest
    → P x × EachHas P xs
first-has P rest xs x is h = subst (EachHas P) is h

pub all-have : {T : Type 0} (P : T → Type 0) (rest xs : List T) (x : T) → rest ≡ x ∷ xs → P x → EachHas P xs
    → EachHas P rest
all-have P rest xs x is h more = subst (EachHas P) (sym is) (h, more)

-- a beginning of the rest was written
pub beginning-left : (a b c : Option (List ℕ)) (octets rest ys more : List ℕ) → AppendsAllBut a b octets rest
    → rest ≡ ys ++ more
    → AppendsBeginning b c ys → AppendsBeginning a c octets
beginning-left a b c octets rest ys more p is q =
    let whole : octets ≡ p.0 ++ (ys ++ more) = p.1 ∙ ap (λ (w : List ℕ). p.0 ++ w) is in
    subst (AppendsBeginning a c) (sym whole) (beginning_then a b c p.0 (ys ++ more) p.2 (beginning_more b c ys more q))

-- nothing remains
pub none-left : {T : Type 0} (xs : List T) → length xs ≡ 0 → xs ≡ []
none-left [] e = refl
none-left (x ∷ xs) e = absurd (omega (arith, e))

pub none-size : {T : Type 0} (octets : T → List ℕ) (xs : List T) → length xs ≡ 0
    → length (listed_octets octets xs) ≡ 0
none-size {T} octets xs e = ap (λ (l : List T). length (listed_octets octets l)) (none-left xs e)

pub none-has : {T : Type 0} (P : T → Type 0) (xs : List T) → length xs ≡ 0 → EachHas P xs
none-has P xs e = subst (EachHas P) (sym (none-left xs e)) tt

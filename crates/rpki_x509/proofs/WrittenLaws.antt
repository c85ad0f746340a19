-- What is written is spelled: parts, in sequence, and a value around them.
use Rattle.std.proofs.Common.{◌≡◌, ◌<◌, ◌^◌, ℕ, Bool, true, List, [], ◌∷◌, ◌++◌, map, length, refl, ap}
use Rattle.std.proofs.Common.{arith, length-append}
use Rattle.rpki_der.specs.Prelude.{TagName, IsTag, tlv, Format, around, then, SpellsEach}
use Rattle.rpki_der.proofs.EncodeLaws.{leaf-legal, tlv-at-least}
use Rattle.rpki_der.specs.Listed.{listed_octets, EachHas}

-- a part, and then others
pub written-then : {A B : Type 0} (F : Format A) (P : Format B) (a : A) (b : B) (x y : List ℕ) → F.spells a x
    → P.spells b y → (then F P).spells (a, b) (x ++ y)
written-then F P a b x y f p = record { first = x; second = y; parts = refl; one = f; two = p }

-- a value around parts
pub written-around : {V : Type 0} (t : TagName) (P : Format V) (v : V) (c : List ℕ) → IsTag t → length c < 2 ^ 32
    → P.spells v c → (around t P).spells v (tlv t true c)
written-around t P v c tag short p = leaf-legal t true P.spells v c tag short p

-- values, in sequence, each read as its normal form
pub written-each : {V : Type 0} (G : V → List ℕ → Type 0) (P : V → Type 0) (normal : V → V) (octets : V → List ℕ)
    → ((v : V) → P v → G (normal v) (octets v))
    → (vs : List V) → EachHas P vs → SpellsEach G (map normal vs) (listed_octets octets vs)
written-each G P normal octets law [] h = refl
written-each G P normal octets law (v ∷ vs) h = (
  listed_octets octets vs,
  record { front = octets v; parts = refl; spelled = law v h.0 },
  written-each G P normal octets law vs h.1,
)

-- items that are written in words of others
pub listed-map : {T V : Type 0} (view : T → V) (octets : V → List ℕ) (xs : List T)
    → listed_octets (λ x. octets (view x)) xs ≡ listed_octets octets (map view xs)
listed-map view octets [] = refl
listed-map view octets (x ∷ xs) = ap (λ (w : List ℕ). octets (view x) ++ w) (listed-map view octets xs)

pub all-units : {T : Type 0} (xs : List T) → EachHas (λ x. Unit {0}) xs
all-units [] = tt
all-units (x ∷ xs) = (tt, all-units xs)

-- two parts that are written, each by its octets
pub appended : {a b x y : List ℕ} → a ≡ b → x ≡ y → a ++ x ≡ b ++ y
appended p q = λ i. p i ++ q i

-- ---- fewer than 2^32 octets, in part

pub front-few : (x y : List ℕ) → length (x ++ y) < 2 ^ 32 → length x < 2 ^ 32
front-few x y short = omega (arith, short, length-append x y)

pub back-few : (x y : List ℕ) → length (x ++ y) < 2 ^ 32 → length y < 2 ^ 32
back-few x y short = omega (arith, short, length-append x y)

pub inside-few : (t : TagName) (f : Bool) (c : List ℕ) → length (tlv t f c) < 2 ^ 32 → length c < 2 ^ 32
inside-few t f c short = omega (arith, short, tlv-at-least t f c)

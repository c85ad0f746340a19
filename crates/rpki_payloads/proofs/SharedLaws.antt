-- Addresses that prefixes have in common.
use Rattle.std.proofs.Common.{◌≡◌, ◌∙◌, ◌↔◌, ◌⊎◌, ◌+◌, ◌-◌, ◌*◌, ◌/◌, ◌^◌, ◌<◌, ◌≤◌, inl, inr, ℕ, suc, List, [], ◌∷◌}
use Rattle.std.proofs.Common.{true, false, ap, arith, map, refl, subst, sym}
use Rattle.std.proofs.Math.Dec.{eqb}
use Rattle.std.proofs.Math.Nat.{div-div-eq-div-mul, div-eq_of_lt, div-lt_iff_lt-mul, div-mul-le_self, lt-div-mul-add}
use Rattle.std.proofs.Math.Nat.{mul-le-mul_right, pow-le-pow_right}
use Rattle.std.proofs.lemmas.Bool.Decides.{eqb_tells}
use Rattle.std.proofs.lemmas.Nat.{div-mul-add, pow-add, pow_pos}
use Rattle.std.specs.List.{Contains, filter}
use Rattle.std.specs.Prelude.{Option, Some, None, nat_eq, slice_get}
use Rattle.std.specs.declared.net.ip_addr.IpAddr.{IpAddr}
use Rattle.std.specs.declared.net.ip_addr.IpAddr.TheVariants.{V4, V6}
use Rattle.rpki_resources.specs.declared.block.Block.{Block}
use Rattle.rpki_resources.specs.declared.ip_text.Prefix.{Prefix}
use Rattle.rpki_resources.specs.Blocks.{AreCanonical, IsAmong, IsIn}
use Rattle.rpki_resources.specs.IpRead.{address_number, address_width, family_of}
use Rattle.rpki_payloads.specs.Conflict.{ShareAddress}
use Rattle.rpki_payloads.specs.Covered.{IsCoveredBy, shared_bits}
use Rattle.rpki_payloads.specs.Exceptions.{Finds}
use Rattle.rpki_payloads.specs.Shared.{AreAddressesOf, AreSharing, HasAddress, block_from, block_of}
use Rattle.rpki_payloads.proofs.AmongLaws.{cons-cases, head-in, none-in, tail-in}

-- ---- numbers that begin alike

-- those from the first that begins with the bits to the last
within : (b s n : ℕ) → 0 < s → b * s ≤ n → n ≤ b * s + (s - 1) → n / s ≡ b
within b s n some low high =
    let rest : n ≡ b * s + (n - b * s) = omega arith in
    let few : n - b * s < s = omega arith in
    ap (λ (m : ℕ). m / s) rest ∙ div-mul-add b s (n - b * s) few

pub bits-of : (b k n : ℕ) → IsIn n (block_from b k) → n / 2 ^ k ≡ b
bits-of b k n h = within b (2 ^ k) n (pow_pos k) h.0 h.1

between : (s n : ℕ) → 0 < s → (n / s * s ≤ n) × (n ≤ n / s * s + (s - 1))
between s n some =
    let low = div-mul-le_self n s in
    let high = lt-div-mul-add {a = n} some in
    (low, omega (arith, high, some))

pub in-block : (b k n : ℕ) → n / 2 ^ k ≡ b → IsIn n (block_from b k)
in-block b k n e = subst (λ (c : ℕ). IsIn n (block_from c k)) e (between (2 ^ k) n (pow_pos k))

-- the last of them has as many bits
pub last-fits : (w k n : ℕ) → k ≤ w → n < 2 ^ w → n / 2 ^ k * 2 ^ k + (2 ^ k - 1) < 2 ^ w
last-fits w k n le lt =
    let e : w ≡ (w - k) + k = omega arith in
    let power : 2 ^ w ≡ 2 ^ (w - k) * 2 ^ k = ap (λ (m : ℕ). 2 ^ m) e ∙ pow-add 2 (w - k) k in
    let some : 0 < 2 ^ k = pow_pos k in
    let few : n / 2 ^ k < 2 ^ (w - k) = (div-lt_iff_lt-mul some).1 (subst (λ (m : ℕ). n < m) power lt) in
    let whole : suc (n / 2 ^ k) * 2 ^ k ≤ 2 ^ (w - k) * 2 ^ k = mul-le-mul_right (2 ^ k) few in
    omega (arith, whole, power, some)

widest : (a : IpAddr) → address_width a ≤ 128
widest (V4 a) = omega arith
widest (V6 a) = omega arith

pub fits-all : (p : Prefix) (k : ℕ) → k ≡ address_width p.addr - p.len
    → address_number p.addr < 2 ^ address_width p.addr
    → address_number p.addr / 2 ^ k * 2 ^ k + (2 ^ k - 1) < 2 ^ 128
fits-all p k e lt =
    let wide = widest p.addr in
    let few : k ≤ address_width p.addr = omega (arith, e) in
    let fits = last-fits (address_width p.addr) k (address_number p.addr) few lt in
    let power : 2 ^ address_width p.addr ≤ 2 ^ 128 = pow-le-pow_right (omega arith) wide in
    omega (arith, fits, power)

-- a prefix of all addresses with 128 bits
pub all-addresses : (p : Prefix) (k : ℕ) → k ≡ address_width p.addr - p.len → 128 ≤ k
    → address_number p.addr < 2 ^ address_width p.addr
    → block_of p ≡ record { low = 0; high = 340282366920938463463374607431768211455 }
all-addresses p k e le lt =
    let wide = widest p.addr in
    let all : address_width p.addr - p.len ≡ 128 = omega (arith, e, wide, le) in
    let width : address_width p.addr ≡ 128 = omega (arith, e, wide, le) in
    let small : address_number p.addr < 2 ^ 128 = subst (λ (w : ℕ). address_number p.addr < 2 ^ w) width lt in
    let none : address_number p.addr / 2 ^ 128 ≡ 0 = div-eq_of_lt small in
    ap (λ (m : ℕ). block_from (address_number p.addr / 2 ^ m) m) all ∙ ap (λ (b : ℕ). block_from b 128) none

-- two that begin alike begin alike before more bits
coarser : (m n a d : ℕ) → m / 2 ^ a ≡ n / 2 ^ a → m / 2 ^ (a + d) ≡ n / 2 ^ (a + d)
coarser m n a d e =
    let power : 2 ^ (a + d) ≡ 2 ^ a * 2 ^ d = pow-add 2 a d in
    ap (λ (p : ℕ). m / p) power ∙ sym (div-div-eq-div-mul m (2 ^ a) (2 ^ d)) ∙ ap (λ (q : ℕ). q / 2 ^ d) e
    ∙ div-div-eq-div-mul n (2 ^ a) (2 ^ d) ∙ sym (ap (λ (p : ℕ). n / p) power)

pub coarser-at : (m n a b : ℕ) → a ≤ b → m / 2 ^ a ≡ n / 2 ^ a → m / 2 ^ b ≡ n / 2 ^ b
coarser-at m n a b le e =
    let all : a + (b - a) ≡ b = omega arith in
    subst (λ (k : ℕ). m / 2 ^ k ≡ n / 2 ^ k) all (coarser m n a (b - a) e)

-- ---- two prefixes

same-family : (a b : IpAddr) → address_width a ≡ address_width b → family_of a ≡ family_of b
same-family (V4 a) (V4 b) e = refl
same-family (V6 a) (V6 b) e = refl
same-family (V4 a) (V6 b) e = absurd (omega (arith, e))
same-family (V6 a) (V4 b) e = absurd (omega (arith, e))

same-width : (a b : IpAddr) → family_of a ≡ family_of b → address_width a ≡ address_width b
same-width (V4 a) (V4 b) e = refl
same-width (V6 a) (V6 b) e = refl
same-width (V4 a) (V6 b) e = absurd (cc)
same-width (V6 a) (V4 b) e = absurd (cc)

covered : (w : ℕ) (c p : Prefix) (n : ℕ) → c.len ≤ p.len → HasAddress w c n → HasAddress w p n → IsCoveredBy c p
covered w c p n le h k =
    let width : address_width c.addr ≡ address_width p.addr = h.0 ∙ sym k.0 in
    let left = address_width p.addr - p.len in
    let more = address_width p.addr - c.len in
    let fine : n / 2 ^ left ≡ address_number p.addr / 2 ^ left = bits-of _ left n k.1 in
    let order : left ≤ more = omega (arith, le) in
    let coarse : n / 2 ^ more ≡ address_number p.addr / 2 ^ more =
    coarser-at n (address_number p.addr) left more order fine in
    let cover : n / 2 ^ (address_width c.addr - c.len) ≡ shared_bits c c.len =
    bits-of _ (address_width c.addr - c.len) n h.1 in
    record {
      family = same-family c.addr p.addr width;
      shorter = le;
      bits = sym coarse ∙ subst (λ (v : ℕ). n / 2 ^ (v - c.len) ≡ shared_bits c c.len) width cover;
    }

pub share-from : (w : ℕ) (p q : Prefix) (n : ℕ) → HasAddress w p n → HasAddress w q n → ShareAddress p q
share-from w p q n h k = by (at p.len q.len)
  where
    at : (i j : ℕ) → (i ≤ j) ⊎ (j ≤ i)
    at i j = grind arith

    by : (p.len ≤ q.len) ⊎ (q.len ≤ p.len) → ShareAddress p q
    by (inl le) = inl (covered w p q n le h k)
    by (inr le) = inr (covered w q p n le k h)

its-own : (p : Prefix) → HasAddress (address_width p.addr) p (address_number p.addr)
its-own p = (refl, in-block _ (address_width p.addr - p.len) (address_number p.addr) refl)

of-cover : (c p : Prefix) → IsCoveredBy c p → HasAddress (address_width p.addr) c (address_number p.addr)
of-cover c p h =
    let width = same-width c.addr p.addr h.family in (
      width,
      in-block _ (address_width c.addr - c.len) (address_number p.addr)
          (subst (λ (v : ℕ). address_number p.addr / 2 ^ (v - c.len) ≡ shared_bits c c.len) (sym width) h.bits),
    )

-- an address that both have
pub share-to : (p q : Prefix) → ShareAddress p q
    → (n : ℕ) × HasAddress (address_width p.addr) p n × HasAddress (address_width p.addr) q n
share-to p q (inl h) =
    let width = same-width p.addr q.addr h.family in (
      address_number q.addr,
      subst (λ (v : ℕ). HasAddress v p (address_number q.addr)) (sym width) (of-cover p q h),
      subst (λ (v : ℕ). HasAddress v q (address_number q.addr)) (sym width) (its-own q),
    )
share-to p q (inr h) = (address_number p.addr, its-own p, of-cover q p h)

-- ---- prefixes

abbrev pub blocks : ℕ → List Prefix → List Block
blocks w ps = map block_of (filter (λ p. nat_eq (address_width p.addr) w) ps)

abbrev pub HaveAddress : ℕ → List Prefix → ℕ → Type 0
HaveAddress w ps n = (p : Prefix) × Contains ps p × HasAddress w p n

Tells : ℕ → ℕ → Type 0
Tells a b = ((eqb a b ≡ true) × (a ≡ b)) ⊎ ((eqb a b ≡ false) × (a ≡ b → ⊥))

later : (w : ℕ) (p : Prefix) (ps : List Prefix) (n : ℕ) → HaveAddress w ps n → HaveAddress w (p ∷ ps) n
later w p ps n k = (k.0, tail-in p ps k.0 k.1, k.2)

from-first : (w : ℕ) (p : Prefix) (ps : List Prefix) (n : ℕ) → Tells (address_width p.addr) w
    → (IsAmong n (blocks w ps) → HaveAddress w ps n) → IsAmong n (blocks w (p ∷ ps)) → HaveAddress w (p ∷ ps) n
unfolding Tells
from-first w p ps n (inl k) next h = by (rw k.0 at h)
  where
    by : IsIn n (block_of p) ⊎ IsAmong n (blocks w ps) → HaveAddress w (p ∷ ps) n
    by (inl i) = (p, head-in p ps, (k.1, i))
    by (inr i) = later w p ps n (next i)
from-first w p ps n (inr k) next h = later w p ps n (next (rw k.0 at h))

pub from-blocks : (w : ℕ) (ps : List Prefix) (n : ℕ) → IsAmong n (blocks w ps) → HaveAddress w ps n
unfolding Tells
from-blocks w [] n h = absurd h
from-blocks w (p ∷ ps) n h = from-first w p ps n (eqb_tells (address_width p.addr) w) (from-blocks w ps n) h

to-first : (w : ℕ) (q : Prefix) (ps : List Prefix) (n : ℕ) (p : Prefix) → Tells (address_width q.addr) w
    → (q ≡ p) ⊎ Contains ps p → HasAddress w p n → (Contains ps p → IsAmong n (blocks w ps))
    → IsAmong n (blocks w (q ∷ ps))
unfolding Tells
to-first w q ps n p (inl k) (inl e) h next =
    rw k.0 (inl (subst (λ (r : Prefix). IsIn n (block_of r)) (sym e) h.1))
to-first w q ps n p (inl k) (inr t) h next = rw k.0 (inr (next t))
to-first w q ps n p (inr k) (inl e) h next =
    absurd (k.1 (subst (λ (r : Prefix). address_width r.addr ≡ w) (sym e) h.0))
to-first w q ps n p (inr k) (inr t) h next = rw k.0 (next t)

pub to-blocks : (w : ℕ) (ps : List Prefix) (n : ℕ) (p : Prefix) → Contains ps p → HasAddress w p n
    → IsAmong n (blocks w ps)
unfolding Tells
to-blocks w [] n p there h = absurd (none-in p there)
to-blocks w (q ∷ ps) n p there h =
    to-first w q ps n p (eqb_tells (address_width q.addr) w) (cons-cases q ps p there) h (λ t. to-blocks w ps n p t h)

-- the set of the numbers of their blocks
pub are-addresses : (w : ℕ) (ps : List Prefix) (found : List Block)
    → ((n : ℕ) → IsAmong n found ↔ IsAmong n (blocks w ps)) → AreAddressesOf w ps found
are-addresses w ps found same n = (
  λ h. from-blocks w ps n ((same n).0 h),
  λ h. (same n).1 (to-blocks w ps n h.0 h.1 h.2),
)

-- no address is in both sets
pub none-sharing : (w : ℕ) (ps qs : List Prefix) (one other both : List Block) → AreAddressesOf w ps one
    → AreAddressesOf w qs other → ((n : ℕ) → IsAmong n both ↔ (IsAmong n one × IsAmong n other)) → both ≡ []
    → (found : Prefix × Prefix) → AreSharing w ps qs found → ⊥
none-sharing w ps qs one other both h k same none found f =
    let n = f.2.0 in
    subst (λ (bs : List Block). IsAmong n bs) none
    ((same n).1 ((h n).1 (found.0, f.0, f.2.1), (k n).1 (found.1, f.1, f.2.2)))

-- the lowest number of the first block is in the set, and there is none where there is no block
pub lowest-in : (bs : List Block) (b : Block) → Some b ≡ slice_get bs 0 → AreCanonical bs → IsAmong b.low bs
lowest-in [] b e h = absurd (cc)
lowest-in (x ∷ xs) b e h =
    let same : x ≡ b = cc in
    subst (λ (c : Block). IsAmong c.low (x ∷ xs)) same (inl (omega arith, h.0))

pub no-first : (bs : List Block) → None ≡ slice_get bs 0 → bs ≡ []
no-first [] e = refl
no-first (x ∷ xs) e = absurd (cc)

-- what has this address is what is looked for
pub found-sharing : (w : ℕ) (ps qs : List Prefix) (n : ℕ) (o : Option (Prefix × Prefix)) → HaveAddress w ps n
    → HaveAddress w qs n
    → Finds (λ both. Contains ps both.0 × Contains qs both.1 × HasAddress w both.0 n × HasAddress w both.1 n) o
    → Finds (AreSharing w ps qs) o
found-sharing w ps qs n None p q none = absurd (none (p.0, q.0) (p.1, q.1, p.2, q.2))
found-sharing w ps qs n (Some both) p q h = (h.0, h.1, (n, h.2, h.3))

-- ---- of any family

pub either-width : (a : IpAddr) → (address_width a ≡ 32) ⊎ (address_width a ≡ 128)
either-width (V4 a) = inl refl
either-width (V6 a) = inr refl

pub sharing-is : (w : ℕ) (ps qs : List Prefix) (both : Prefix × Prefix) → AreSharing w ps qs both
    → Contains ps both.0 × Contains qs both.1 × ShareAddress both.0 both.1
sharing-is w ps qs both h = (h.0, h.1, share-from w both.0 both.1 h.2.0 h.2.1 h.2.2)

pub none-sharing-at-all : (ps qs : List Prefix) → ((both : Prefix × Prefix) → AreSharing 32 ps qs both → ⊥)
    → ((both : Prefix × Prefix) → AreSharing 128 ps qs both → ⊥) → (both : Prefix × Prefix)
    → Contains ps both.0 × Contains qs both.1 × ShareAddress both.0 both.1 → ⊥
none-sharing-at-all ps qs short long both h = by (either-width both.0.addr)
  where
    at : AreSharing (address_width both.0.addr) ps qs both
    at = (h.0, h.1, share-to both.0 both.1 h.2)

    by : (address_width both.0.addr ≡ 32) ⊎ (address_width both.0.addr ≡ 128) → ⊥
    by (inl e) = short both (subst (λ (w : ℕ). AreSharing w ps qs both) e at)
    by (inr e) = long both (subst (λ (w : ℕ). AreSharing w ps qs both) e at)

pub finds-sharing : (ps qs : List Prefix) (o : Option (Prefix × Prefix))
    → ((both : Prefix × Prefix) → AreSharing 32 ps qs both → ⊥) → Finds (AreSharing 128 ps qs) o
    → Finds (λ both. Contains ps both.0 × Contains qs both.1 × ShareAddress both.0 both.1) o
finds-sharing ps qs None short long = none-sharing-at-all ps qs short long
finds-sharing ps qs (Some both) short h = sharing-is 128 ps qs both h

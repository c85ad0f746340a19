-- Blocks that are passed as entries are the same blocks where they are read again.
use Rattle.std.proofs.Common.{◌≡◌, ◌∙◌, ◌+◌, ◌*◌, ◌/◌, ◌%◌, ◌<◌, ◌^◌, ℕ, List, [], ◌∷◌, refl, sym, ap, arith}
use Rattle.std.proofs.Common.{subst}
use Rattle.std.specs.Prelude.{map}
use Rattle.std.specs.Int.{w128, to_be_bytes, from_be_bytes}
use Rattle.std.proofs.lemmas.Nat.{from_be_bytes-to_be_bytes_4}
use Rattle.std.proofs.Math.Nat.{div-div-eq-div-mul}
use Rattle.rpki_resources.specs.declared.block.Block.{Block}
use Rattle.rpki_resources.specs.declared.family.AddressFamily.TheVariants.{Ipv4, Ipv6}
use Rattle.rpki_resources.specs.declared.kind.ResourceKind.TheVariants.{Addresses}
use Rattle.rpki_resources.specs.Blocks.{AreCanonical, AreNumbersOf, IsAmong}
use Rattle.rpki_resources.specs.Encoded.{AreBlocksOf}
use Rattle.rpki_resources.specs.Text.{IsBlockOfFamily}
use Rattle.rpki_resources.proofs.BlocksLaws.{one-list, same-block}
use Rattle.rpki_c.specs.Resources.{as_entry, ip_entry, numbers_of}
use Rattle.rpki_c.specs.Settling.{as_blocks, family_blocks, settled_entries}

-- ---- addresses of IP version 6

-- a number by its sixteen digits of base 256, the highest first
joined : (a b c d e f g h i j k l m o p q : ℕ) (n1 n2 n3 n4 n5 n6 n7 n8 n9 n10 n11 n12 n13 n14 n15 n : ℕ)
    → n ≡ q + n1 * 256 → n1 ≡ p + n2 * 256 → n2 ≡ o + n3 * 256 → n3 ≡ m + n4 * 256 → n4 ≡ l + n5 * 256
    → n5 ≡ k + n6 * 256 → n6 ≡ j + n7 * 256 → n7 ≡ i + n8 * 256 → n8 ≡ h + n9 * 256 → n9 ≡ g + n10 * 256
    → n10 ≡ f + n11 * 256 → n11 ≡ e + n12 * 256 → n12 ≡ d + n13 * 256 → n13 ≡ c + n14 * 256 → n14 ≡ b + n15 * 256
    → n15 ≡ a
    → a * 1329227995784915872903807060280344576 + b * 5192296858534827628530496329220096
    + c * 20282409603651670423947251286016 + d * 79228162514264337593543950336 + e * 309485009821345068724781056
    + f * 1208925819614629174706176 + g * 4722366482869645213696 + h * 18446744073709551616
    + i * 72057594037927936 + j * 281474976710656 + k * 1099511627776 + l * 4294967296 + m * 16777216 + o * 65536
    + p * 256 + q ≡ n
joined a b c d e f g h i j k l m o p q n1 n2 n3 n4 n5 n6 n7 n8 n9 n10 n11 n12 n13 n14 n15 n e0 e1 e2 e3 e4 e5 e6 e7 e8
    e9 e10 e11 e12 e13 e14 e15 = omega arith

byte_and_rest : (n p : ℕ) → n / p ≡ n / p % 256 + n / (p * 256) * 256
byte_and_rest n p = omega (arith, div-div-eq-div-mul n p 256)

sixteen-back : (n : ℕ) → n < 2 ^ 128 → from_be_bytes w128 (to_be_bytes w128 n) ≡ n
sixteen-back n fits =
    let low : n ≡ n % 256 + n / 256 * 256 = omega arith in
    let high : n / 1329227995784915872903807060280344576 ≡ n / 1329227995784915872903807060280344576 % 256 =
    omega arith in
    joined _ _ _ _ _ _ _ _ _ _ _ _ _ _ _ _ _ _ _ _ _ _ _ _ _ _ _ _ _ _ _ n low
    (byte_and_rest n 256) (byte_and_rest n 65536) (byte_and_rest n 16777216)
    (byte_and_rest n 4294967296) (byte_and_rest n 1099511627776) (byte_and_rest n 281474976710656)
    (byte_and_rest n 72057594037927936) (byte_and_rest n 18446744073709551616)
    (byte_and_rest n 4722366482869645213696) (byte_and_rest n 1208925819614629174706176)
    (byte_and_rest n 309485009821345068724781056) (byte_and_rest n 79228162514264337593543950336)
    (byte_and_rest n 20282409603651670423947251286016) (byte_and_rest n 5192296858534827628530496329220096) high

-- ---- a block

four-back : (b : Block) → IsBlockOfFamily Ipv4 b → numbers_of Ipv4 (ip_entry Ipv4 b) ≡ b
four-back b h =
    same-block (numbers_of Ipv4 (ip_entry Ipv4 b)) b (from_be_bytes-to_be_bytes_4 b.low (omega (arith, h.0, h.1)))
    (from_be_bytes-to_be_bytes_4 b.high h.1)

six-back : (b : Block) → IsBlockOfFamily Ipv6 b → numbers_of Ipv6 (ip_entry Ipv6 b) ≡ b
six-back b h =
    same-block (numbers_of Ipv6 (ip_entry Ipv6 b)) b (sixteen-back b.low (omega (arith, h.0, h.1)))
    (sixteen-back b.high h.1)

cons-same : (x y : Block) (xs ys : List Block) → x ≡ y → xs ≡ ys → x ∷ xs ≡ y ∷ ys
cons-same x y xs ys p q = ap (λ (z : Block). z ∷ xs) p ∙ ap (λ (zs : List Block). y ∷ zs) q

-- ---- all blocks

none-of-four : (v6 : List Block) → family_blocks Ipv4 (map (ip_entry Ipv6) v6) ≡ []
none-of-four [] = refl
none-of-four (b ∷ bs) = none-of-four bs

all-of-six : (v6 : List Block) → AreBlocksOf (Addresses Ipv6) v6 → family_blocks Ipv6 (map (ip_entry Ipv6) v6) ≡ v6
all-of-six [] h = refl
all-of-six (b ∷ bs) h =
    cons-same (numbers_of Ipv6 (ip_entry Ipv6 b)) b (family_blocks Ipv6 (map (ip_entry Ipv6) bs)) bs (six-back b h.0)
    (all-of-six bs h.1)

pub four-is : (v4 v6 : List Block) → AreBlocksOf (Addresses Ipv4) v4 → family_blocks Ipv4 (settled_entries v4 v6) ≡ v4
four-is [] v6 h = none-of-four v6
four-is (b ∷ bs) v6 h =
    cons-same (numbers_of Ipv4 (ip_entry Ipv4 b)) b (family_blocks Ipv4 (settled_entries bs v6)) bs (four-back b h.0)
    (four-is bs v6 h.1)

pub six-is : (v4 v6 : List Block) → AreBlocksOf (Addresses Ipv6) v6 → family_blocks Ipv6 (settled_entries v4 v6) ≡ v6
six-is [] v6 h = all-of-six v6 h
six-is (b ∷ bs) v6 h = six-is bs v6 h

pub numbers-are : (asn : List Block) → as_blocks (map as_entry asn) ≡ asn
numbers-are [] = refl
numbers-are (b ∷ bs) = ap (λ (zs : List Block). b ∷ zs) (numbers-are bs)

-- blocks in canonical form are the only ones that have their numbers
pub same-numbers : (blocks found held : List Block) → AreNumbersOf blocks found → blocks ≡ held → AreCanonical held
    → found ≡ held
same-numbers blocks found held h is c =
    one-list found held h.canonical c (λ n a. subst (IsAmong n) is ((h.numbers n).0 a))
    (λ n a. (h.numbers n).1 (subst (IsAmong n) (sym is) a))

-- Prefixes within resources.
use Rattle.std.proofs.Common.{◌≡◌, Bool, true, false, List}
use Rattle.std.specs.Prelude.{◌↔◌, IsTrue}
use Rattle.rpki_resources.specs.declared.block.Block.{Block}
use Rattle.rpki_resources.specs.Blocks.{IsSubset, AreNumbersOf}
use Rattle.rpki_contents.specs.Roa.{AttestationParts}
use Rattle.rpki_contents.specs.Within.{AreWithin, blocks_of}

-- the numbers of blocks are in a set where those of the set of them are
pub same-subset : (xs ys zs : List Block) (b : Bool) → AreNumbersOf xs ys → IsTrue b ↔ IsSubset ys zs
    → IsTrue b ↔ IsSubset xs zs
same-subset xs ys zs b a e =
    (λ t n h. e.0 t n ((a.numbers n).1 h), λ all. e.1 (λ n h. all n ((a.numbers n).0 h)))

module _ (x : AttestationParts) (v4 v6 : List Block) where
  -- those of IP version 4 are within the resources, and so those of IP version 6 decide; or they aren't
  pub second-decides : (a b : Bool) → IsTrue a ↔ IsSubset (blocks_of 32 x.v4) v4
      → IsTrue b ↔ IsSubset (blocks_of 128 x.v6) v6 → a ≡ true → IsTrue b ↔ AreWithin x v4 v6
  second-decides a b h k there =
      (λ both. record { in_v4 = h.0 there; in_v6 = k.0 both }, λ all. k.1 all.in_v6)

  pub first-decides : (a : Bool) → IsTrue a ↔ IsSubset (blocks_of 32 x.v4) v4 → a ≡ false → IsTrue a ↔ AreWithin x v4 v6
  first-decides a h not = (λ wrong. cc, λ all. h.1 all.in_v4)

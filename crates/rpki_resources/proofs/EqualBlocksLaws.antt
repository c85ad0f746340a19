-- Equal lists of blocks in canonical form are one set.
use Rattle.std.proofs.Common.{◌≡◌, ◌↔◌, Bool, List, [], ◌∷◌, true, refl, sym, subst}
use Rattle.std.specs.Prelude.{IsTrue, nat_eq}
use Rattle.std.specs.Bool.{Decides}
use Rattle.std.proofs.lemmas.Bool.Decides.{Decides-and, Decides-eqb}
use Rattle.rpki_resources.specs.declared.block.Block.{Block}
use Rattle.rpki_resources.specs.Blocks.{IsAmong, IsSubset, AreCanonical}
use Rattle.rpki_resources.specs.Equal.{same_block, same_blocks}
use Rattle.rpki_resources.proofs.BlocksLaws.{one-list, same-block}

block-decides : (x y : Block) → Decides (same_block x y) ((x.low ≡ y.low) × (x.high ≡ y.high))
block-decides x y = Decides-and (nat_eq x.low y.low) (nat_eq x.high y.high) (Decides-eqb x.low y.low)
    (Decides-eqb x.high y.high)

known : (b : Bool) → Decides b (b ≡ true)
known b = (λ e. e, λ e. e)

pub equal : (xs ys : List Block) → same_blocks xs ys ≡ true → xs ≡ ys
equal [] [] h = refl
equal [] (y ∷ ys) h = absurd (cc)
equal (x ∷ xs) [] h = absurd (cc)
equal (x ∷ xs) (y ∷ ys) h =
    let both = (Decides-and (same_block x y) (same_blocks xs ys) (block-decides x y) (known (same_blocks xs ys))).0 h in
    let first : x ≡ y = same-block x y both.0.0 both.0.1 in
    let rest : xs ≡ ys = equal xs ys both.1 in
    cc

itself : (xs : List Block) → same_blocks xs xs ≡ true
itself [] = refl
itself (x ∷ xs) = (Decides-and (same_block x x) (same_blocks xs xs) (block-decides x x) (known (same_blocks xs xs))).1
    ((refl, refl), itself xs)

same : (xs ys : List Block) → xs ≡ ys → same_blocks xs ys ≡ true
same xs ys e = subst (λ (zs : List Block). same_blocks xs zs ≡ true) e (itself xs)

pub one-set : (xs ys : List Block) → AreCanonical xs → AreCanonical ys
    → IsTrue (same_blocks xs ys) ↔ (IsSubset xs ys × IsSubset ys xs)
one-set xs ys c d = (
  λ h.
      let e = equal xs ys h in (
        λ n a. subst (λ (zs : List Block). IsAmong n zs) e a,
        λ n a. subst (λ (zs : List Block). IsAmong n zs) (sym e) a,
      ),
  λ h. same xs ys (one-list xs ys c d h.0 h.1),
)

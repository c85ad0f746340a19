-- The numbers of blocks in any order.
use Rattle.std.proofs.Common.{◌≡◌, inl, inr, List, ◌++◌, sym, subst}
use Rattle.std.specs.Prelude.{Result, Ok, Err, IfOk}
use Rattle.rpki_resources.specs.declared.block.Block.{Block}
use Rattle.rpki_resources.specs.Blocks.{IsAmong, AreUnited, AreNumbersOf}
use Rattle.rpki_resources.proofs.MergeLaws.{among-append}

-- the numbers of two parts of a list together are those of the list
pub together : (blocks xs ys one other found : List Block) → xs ++ ys ≡ blocks → AreNumbersOf xs one
    → AreNumbersOf ys other → AreUnited one other found
    → AreNumbersOf blocks found
together blocks xs ys one other found e h k u = record {
  numbers = λ n. (
    λ is. subst (IsAmong n) e ((among-append n xs ys).1 (elim (((u.numbers n).0) is) [
      | inl a ↦ inl ((h.numbers n).0 a)
      | inr a ↦ inr ((k.numbers n).0 a)
    ])),
    λ is. (u.numbers n).1 (elim ((among-append n xs ys).0 (subst (IsAmong n) (sym e) is)) [
      | inl a ↦ inl ((h.numbers n).1 a)
      | inr a ↦ inr ((k.numbers n).1 a)
    ]),
  );
  canonical = u.canonical;
}

pub if-ok : {A E : Type 0} (P Q : A → Type 0) (r : Result A E) → ((v : A) → P v → Q v) → IfOk r P → IfOk r Q
if-ok P Q (Ok v) f h = f v h
if-ok P Q (Err e) f h = tt

use Rattle.std.proofs.Common.{◌≡◌, ◌∙◌, List, Result, Ok, Err}
use Rattle.std.specs.Prelude.{IfErr}
use Rattle.rpki_resources.specs.declared.block.Block.{Block}
use Rattle.rpki_resources.specs.Blocks.{AreShared}
use Rattle.rpki_resources.proofs.BlocksLaws.{one-list}
use Rattle.rpki_resources.proofs.blocks.Blocks.intersection.Goals as goal

one-shared : (xs ys a b : List Block) → AreShared xs ys a → AreShared xs ys b → a ≡ b
one-shared xs ys a b h k =
    one-list a b h.canonical k.canonical (λ n m. (k.numbers n).1 ((h.numbers n).0 m))
    (λ n m. (h.numbers n).1 ((k.numbers n).0 m))

on-err : {A E P Q : Type 0} (r : Result A E) → (P → Q) → IfErr r (λ _. P) → IfErr r (λ _. Q)
on-err (Ok x) f h = tt
on-err (Err e) f h = f h

pub returns-clause-memory : goal.returns-clause-memory
returns-clause-memory c =
    let here = rw (c.as_slice.ensures.blocks, c.as_slice-2.ensures.blocks) at c.in_ok-items.ensures.shared in
    on-err c.shared-2.result
    (λ some x h none. some (one-shared c.args.self.now c.args.other.now _ x here h ∙ none)) c.shared-2.ensures.memory

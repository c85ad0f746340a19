-- Leaves whose decision has an argument: for the search (`using`), which finds the others by leaf_law.
use Rattle.std.proofs.Common.{◌≡◌, ℕ, List, Result}
use Rattle.rpki_der.specs.declared.error.DecodeError.{DecodeError}
use Rattle.rpki_der.specs.Values.{ReadsLeaf}
use Rattle.rpki_der.specs.TagName.{integer, octet_string, oid}
use Rattle.rpki_der.specs.Integer.{IsUnsignedBelow, IsNumber}
use Rattle.rpki_der.specs.Leaves.{IsOnly, IsSized}
use Rattle.rpki_der.proofs.StepLaws.{IsBytes}
use Rattle.rpki_parse.specs.Words.{parsed}
use Rattle.rpki_parse.specs.Leaf.{leaf_at, below_in, number_in, sized_in, only_in}
use Rattle.rpki_parse.proofs.LeafLaws.{leaf_law}
use Rattle.rpki_parse.proofs.DecisionLaws.{below_decides, number_decides, sized_decides, only_decides}

module _ {X : Type 0} where
  pub below_law : (view : X → ℕ) (n : ℕ) (s r : List ℕ) (x : Result X DecodeError) → IsBytes s
      → ReadsLeaf view integer (IsUnsignedBelow n) s r x → parsed view x r ≡ leaf_at integer (below_in n) s
  below_law view n s r x b h = leaf_law view integer _ _ s r x (below_decides n) b h

  pub number_law : (view : X → Unit {0}) (n : ℕ) (s r : List ℕ) (x : Result X DecodeError) → IsBytes s
      → ReadsLeaf view integer (IsNumber n) s r x → parsed view x r ≡ leaf_at integer (number_in n) s
  number_law view n s r x b h = leaf_law view integer _ _ s r x (number_decides n) b h

  pub sized_law : (view : X → List ℕ) (n : ℕ) (s r : List ℕ) (x : Result X DecodeError) → IsBytes s
      → ReadsLeaf view octet_string (IsSized n) s r x → parsed view x r ≡ leaf_at octet_string (sized_in n) s
  sized_law view n s r x b h = leaf_law view octet_string _ _ s r x (sized_decides n) b h

  pub only_law : (view : X → Unit {0}) (o : List ℕ) (s r : List ℕ) (x : Result X DecodeError) → IsBytes s
      → ReadsLeaf view oid (IsOnly o) s r x → parsed view x r ≡ leaf_at oid (only_in o) s
  only_law view o s r x b h = leaf_law view oid _ _ s r x (only_decides o) b h

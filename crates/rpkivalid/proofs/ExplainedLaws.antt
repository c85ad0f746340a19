-- What is said under locators, in sequence.
use Rattle.std.proofs.Common.{◌≡◌, ℕ, Bool, true, false, List, [], ◌∷◌, ◌++◌, length, refl, sym, subst}
use Rattle.std.proofs.Common.{append_assoc, append-nil, arith}
use Rattle.std.specs.Prelude.{◌&&◌}
use Rattle.rpkivalid.specs.Locators.{NamedParts}
use Rattle.rpkivalid.specs.Reported.{AreTold}

-- what is said of those in front of the rest
abbrev pub IsToldUpTo : (NamedParts → List ℕ → Bool → Type 0) → List NamedParts → List NamedParts → List ℕ → Bool
    → Type 0
IsToldUpTo R locators rest text all =
    (more : List ℕ) (others : Bool) → AreTold R rest more others → AreTold R locators (text ++ more) (all && others)

and-then : (a b c : Bool) → (a && (b && c)) ≡ ((a && b) && c)
and-then true b c = refl
and-then false b c = refl

and-true : (a : Bool) → (a && true) ≡ a
and-true true = refl
and-true false = refl

module _ (R : NamedParts → List ℕ → Bool → Type 0) (locators : List NamedParts) where
  pub told-start : IsToldUpTo R locators locators [] true
  told-start = λ more others h. h

  pub told-step : (rest : List NamedParts) (l : NamedParts) (text : List ℕ) (all : Bool) (one : List ℕ)
      (anchored : Bool) → IsToldUpTo R locators (l ∷ rest) text all → R l one anchored
      → IsToldUpTo R locators rest (text ++ one) (all && anchored)
  told-step rest l text all one anchored before is = λ more others h.
      subst (λ (b : Bool). AreTold R locators ((text ++ one) ++ more) b) (and-then all anchored others)
      (subst (λ (t : List ℕ). AreTold R locators t (all && (anchored && others))) (sym (append_assoc text one more))
      (before (one ++ more) (anchored && others) (one, more, anchored, others, is, h, refl, refl)))

  pub told-end : (rest : List NamedParts) (text : List ℕ) (all : Bool) → length rest ≡ 0
      → IsToldUpTo R locators rest text all → AreTold R locators text all
  told-end (l ∷ rest) text all none before = absurd (omega (arith, none))
  told-end [] text all none before =
      subst (λ (b : Bool). AreTold R locators text b) (and-true all)
      (subst (λ (t : List ℕ). AreTold R locators t (all && true)) (append-nil text) (before [] true (refl, refl)))

-- Lemmas: trees of values that are made of other trees.
use Rattle.std.specs.Prelude.{◌≡◌, ℕ, Bool, true, false, ◌<◌, ◌^◌, ◌↔◌, List, ◌++◌, length, Option, Some, None, refl}
use Rattle.std.proofs.Common.{ap, ◌∙◌}
use Rattle.rpki_der.specs.TagName.{TagName}
use Rattle.rpki_der.specs.Header.{tlv}
use Rattle.rpki_der.specs.OptionalPart.{optional_octets, optional_tree, OfPart}
use Rattle.rpki_der.specs.Tree.{Tree, around, tree_octets, IsShortTree}

-- values and then values
pub both_spelled : (a b : List ℕ) (s t : Tree) → a ≡ tree_octets s → b ≡ tree_octets t
    → a ++ b ≡ tree_octets s ++ tree_octets t
both_spelled a b s t p q = ap (λ (w : List ℕ). w ++ b) p ∙ ap (λ (w : List ℕ). tree_octets s ++ w) q

pub both_measured : {A B P Q : Type 0} → (A ↔ P) → (B ↔ Q) → (A × B) ↔ (P × Q)
both_measured p q = (λ h. (p.0 h.0, q.0 h.1), λ h. (p.1 h.0, q.1 h.1))

pub three_measured : {A B C P Q R : Type 0} → (A ↔ P) → (B ↔ Q) → (C ↔ R) → (A × B × C) ↔ ((P × Q) × R)
three_measured p q r = (λ h. ((p.0 h.0, q.0 h.1), r.0 h.2), λ h. (p.1 h.0.0, q.1 h.0.1, r.1 h.1))

-- a value around values
pub around_spelled : (t : TagName) (f : Bool) (a : List ℕ) (s : Tree) → a ≡ tree_octets s
    → tlv t f a ≡ tree_octets (around t f s)
around_spelled t true a s p = ap (λ (w : List ℕ). tlv t true w) p
around_spelled t false a s p = ap (λ (w : List ℕ). tlv t false w) p

pub around_measured : {A : Type 0} (t : TagName) (f : Bool) (a : List ℕ) (s : Tree) → a ≡ tree_octets s
    → (A ↔ IsShortTree s) → (A × (length a < 2 ^ 32)) ↔ IsShortTree (around t f s)
around_measured t true a s e p = (λ h. (p.0 h.0, rw (← e) h.1), λ h. (p.1 h.0, rw e h.1))
around_measured t false a s e p = (λ h. (p.0 h.0, rw (← e) h.1), λ h. (p.1 h.0, rw e h.1))

-- values that may be left out
pub optional_spelled : {V : Type 0} (octets : V → List ℕ) (tree : V → Tree)
    → ((v : V) → octets v ≡ tree_octets (tree v))
    → (x : Option V) → optional_octets octets x ≡ tree_octets (optional_tree tree x)
optional_spelled octets tree p None = refl
optional_spelled octets tree p (Some v) = p v

pub optional_measured : {V : Type 0} (P : V → Type 0) (tree : V → Tree) → ((v : V) → P v ↔ IsShortTree (tree v))
    → (x : Option V) → OfPart P x ↔ IsShortTree (optional_tree tree x)
optional_measured P tree p None = (λ h. h, λ h. h)
optional_measured P tree p (Some v) = p v

-- what is said in the words of the tree
pub as_it_is : {P : Type 0} → P ↔ P
as_it_is = (λ h. h, λ h. h)

-- Texts that are added in sequence.
use Rattle.std.proofs.Common.{◌≡◌, ◌∙◌, ℕ, List, ◌++◌, ap, append_assoc}

pub then-two : (old a b x y : List ℕ) → x ≡ old ++ a → y ≡ x ++ b → y ≡ old ++ (a ++ b)
then-two old a b x y first second = second ∙ ap (λ (w : List ℕ). w ++ b) first ∙ append_assoc old a b

pub then-three : (old a b c x y z : List ℕ) → x ≡ old ++ a → y ≡ x ++ b → z ≡ y ++ c → z ≡ old ++ (a ++ b ++ c)
then-three old a b c x y z first second third =
    then-two old (a ++ b) c y z (then-two old a b x y first second) third

pub then-four : (old a b c d x y z w : List ℕ) → x ≡ old ++ a → y ≡ x ++ b → z ≡ y ++ c → w ≡ z ++ d
    → w ≡ old ++ (a ++ b ++ c ++ d)
then-four old a b c d x y z w first second third fourth =
    then-two old (a ++ b ++ c) d z w (then-three old a b c x y z first second third) fourth

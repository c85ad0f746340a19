-- Signed data of the RPKI that is equal.
use Rattle.std.proofs.Common.{◌≡◌, ℕ, Bool, true, false, List, IsTrue, nat_eq, ◌&&◌, refl, sym, ap, ◌∙◌}
use Rattle.std.specs.Cmp.Lexicographic.{pointwise}
use Rattle.std.proofs.lemmas.Slice.Eq.{bytes_eq-Decides}
use mathlib.Core.Bool.{beq}
use Rattle.rpki.proofs.NamedLaws.{and-first, and-second}
use Rattle.rpki.specs.Oids.{sha256_with_rsa_encryption}
use Rattle.rpki.specs.Algorithm.{SpellsAlgorithm}
use Rattle.rpki.specs.AlgorithmOctetsLaws.{algorithm-is}
use Rattle.rpki.specs.SignedData.{SignedParts, parts_of}
use Rattle.rpki.specs.SignedEqual.{same_signed}

pub one-spelling : (present : Bool) (s t : List ℕ) → SpellsAlgorithm sha256_with_rsa_encryption present s
    → SpellsAlgorithm sha256_with_rsa_encryption present t → s ≡ t
one-spelling present s t p q =
    algorithm-is sha256_with_rsa_encryption present s p ∙ sym (algorithm-is sha256_with_rsa_encryption present t q)

same-parts : (v w : SignedParts Bool) → v.signed ≡ w.signed → v.algorithm ≡ w.algorithm → v.value ≡ w.value → v ≡ w
same-parts v w p q r =
    ap (λ (d : List ℕ). parts_of d v.algorithm v.value) p ∙ ap (λ (a : Bool). parts_of w.signed a v.value) q ∙ ap
    (λ (x : List ℕ). parts_of w.signed w.algorithm x) r

beq-same : (a b : Bool) → IsTrue (beq a b) → a ≡ b
beq-same true true h = refl
beq-same true false h = absurd (cc)
beq-same false true h = absurd (cc)
beq-same false false h = refl

pub same-signed : (v w : SignedParts Bool) → IsTrue (same_signed v w) → v ≡ w
same-signed v w h =
    let one = and-first (pointwise nat_eq v.signed w.signed)
    (beq v.algorithm w.algorithm && pointwise nat_eq v.value w.value) h in
    let rest = and-second (pointwise nat_eq v.signed w.signed)
    (beq v.algorithm w.algorithm && pointwise nat_eq v.value w.value) h in
    same-parts v w
    ((bytes_eq-Decides v.signed w.signed).0 one)
    (beq-same v.algorithm w.algorithm (and-first (beq v.algorithm w.algorithm) (pointwise nat_eq v.value w.value) rest))
    ((bytes_eq-Decides v.value w.value).0
    (and-second (beq v.algorithm w.algorithm) (pointwise nat_eq v.value w.value) rest))

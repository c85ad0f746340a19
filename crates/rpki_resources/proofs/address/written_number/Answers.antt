use Rattle.std.proofs.Common.{◌≡◌, ◌+◌, ◌*◌, ◌^◌, ◌<◌, ◌≤◌, ◌∷◌, ℕ, List, length, arith, subst}
use Rattle.rpki_der.specs.Number.{number_of, AreOctets}
use Rattle.rpki_der.proofs.IntegerLaws.{octets-fit, next-octet, so-far}
use Rattle.rpki_resources.proofs.OctetsLaws.{sixteen-octets}
use Rattle.rpki_resources.proofs.address.written_number.Goals as goal

-- what was read with one octet more
next : (octets rest xs : List ℕ) (n x : ℕ) → rest ≡ x ∷ xs → number_of octets ≡ n * 256 ^ length rest + number_of rest
    → number_of octets ≡ (n * 256 + x) * 256 ^ length xs + number_of xs
next octets rest xs n x is h =
    next-octet (number_of octets) n x xs (subst (λ (ys : List ℕ). number_of octets ≡ n * 256 ^ length ys + number_of ys)
    is h)

bounded : (octets rest xs : List ℕ) (n x : ℕ) → AreOctets octets → length octets ≤ 16 → rest ≡ x ∷ xs
    → number_of octets ≡ n * 256 ^ length rest + number_of rest
    → n * 256 + x < 2 ^ 128
bounded octets rest xs n x o few is h =
    omega (
      arith,
      sixteen-octets octets o few,
      so-far (number_of octets) (n * 256 + x) (length xs) (number_of xs) (next octets rest xs n x is h),
    )

pub overflow_mul-number : goal.overflow_mul-number
overflow_mul-number c =
    let b = bounded c.args.octets.now _ c.in-Some.following.now c.octets.number c.in-Some.first.now
    (octets-fit _ c.type_inv.octets) c.requires c.in-Some.ensures.cases.0 c.octets.invariant in
    record { fits = omega (arith, b) }

pub overflow_add-number : goal.overflow_add-number
overflow_add-number c =
    let b = bounded c.args.octets.now _ c.in-Some.following.now c.octets.number c.in-Some.first.now
    (octets-fit _ c.type_inv.octets) c.requires c.in-Some.ensures.cases.0 c.octets.invariant in
    record { fits = omega (arith, b, c.from.ensures) }

pub octets-preserved : goal.octets-preserved
octets-preserved c = rw c.from.ensures (next c.args.octets.now _ c.in-Some.following.now c.octets.number
    c.in-Some.first.now c.in-Some.ensures.cases.0 c.octets.invariant)

-- Numbers without the zeros, or the ones, at their end; the bits that two numbers share.
use Rattle.std.proofs.Common.{◌≡◌, ◌≤◌, ◌<◌, ◌⊎◌, ◌-◌, ◌*◌, ◌/◌, ◌%◌, ◌^◌, inl, inr, ℕ, zero, suc, Bool, true, false}
use Rattle.std.proofs.Common.{cond, eqb, Option, Some, None, refl, sym, ap, ◌∙◌, subst, arith}
use Rattle.std.proofs.Math.Nat.{mul-div_left}
use Rattle.std.proofs.lemmas.Nat.{pow_pos}
use Rattle.std.proofs.lemmas.Bool.{eq-eqb, ne_eqb, eqb-true}
use Rattle.rpki_resources.specs.declared.address.Address.{Address}
use Rattle.rpki_resources.specs.Address.{HasNoZeros, HasNoOnes, IsAddressOf, low_end, high_end, IsPrefix}
use Rattle.rpki_resources.specs.Encoded.{bits_at, without_end, without_zeros, without_ones, shared_bits}
use Rattle.rpki_resources.proofs.PrefixLaws.{twice, single, one-number, halves, few-missing}

-- ---- one step

pub end-step : (bit k n : ℕ) → n % 2 ≡ bit → without_end bit k (n / 2) ≡ without_end bit (suc k) n
unfolding without_end
end-step bit k n same = rw (eq-eqb (n % 2) bit same) refl

pub end-more : (bit k n : ℕ) → 0 < k → n % 2 ≡ bit → without_end bit (k - 1) (n / 2) ≡ without_end bit k n
end-more bit k n some same =
    let whole : k ≡ suc (k - 1) = omega arith in
    end-step bit (k - 1) n same ∙ ap (λ (j : ℕ). without_end bit j n) (sym whole)

pub end-there : (bit k n : ℕ) → (n % 2 ≡ bit → ⊥) → bits_at n k ≡ without_end bit k n
unfolding without_end
end-there bit zero n other = refl
end-there bit (suc k) n other = rw (ne_eqb (n % 2) bit other) refl

pub end-none : (bit k n : ℕ) → k ≡ 0 → bits_at n k ≡ without_end bit k n
unfolding without_end
end-none bit zero n none = refl
end-none bit (suc k) n none = absurd (omega arith)

-- ---- an end without the bits at its end

wider : (k size : ℕ) → size ≤ k → 2 ^ (suc k - size) ≡ 2 * 2 ^ (k - size)
wider k size le = let e : suc k - size ≡ suc (k - size) = omega arith in rw e (twice (k - size))

pub record StrippedLow (k n : ℕ) (x : Address) : Type 0 where
  pub legal : IsAddressOf k x
  pub stripped : HasNoZeros x
  pub end : low_end k x ≡ n

pub record StrippedHigh (k n : ℕ) (x : Address) : Type 0 where
  pub legal : IsAddressOf k x
  pub stripped : HasNoOnes x
  pub end : high_end k x ≡ n

low-there : (k n : ℕ) → n < 2 ^ k → (k ≡ 0) ⊎ (n % 2 ≡ 1) → StrippedLow k n (bits_at n k)
low-there k n lt h =
    let none : k - k ≡ 0 = omega arith in
    record { legal = (omega arith, lt); stripped = h; end = rw none (omega arith) }

low-end-more : (k n : ℕ) (x : Address) → n % 2 ≡ 0 → x.size ≤ k → low_end k x ≡ n / 2 → low_end (suc k) x ≡ n
low-end-more k n x even few end = rw (wider k x.size few) (omega (arith, end, even))

high-end-more : (k n : ℕ) (x : Address) → n % 2 ≡ 1 → x.size ≤ k → high_end k x ≡ n / 2 → high_end (suc k) x ≡ n
high-end-more k n x odd few end =
    let some : 0 < 2 ^ (k - x.size) = pow_pos (k - x.size) in
    rw (wider k x.size few) (omega (arith, end, odd, some))

low-more : (k n : ℕ) (x : Address) → n % 2 ≡ 0 → StrippedLow k (n / 2) x → StrippedLow (suc k) n x
low-more k n x even h =
    let few = h.legal.0 in
    record { legal = (omega (arith, few), h.legal.1); stripped = h.stripped; end = low-end-more k n x even few h.end }

pub stripped-low : (k n : ℕ) → n < 2 ^ k → StrippedLow k n (without_zeros k n)
stripped-low zero n lt = subst (StrippedLow zero n) (end-none 0 zero n refl) (low-there zero n lt (inl refl))
stripped-low (suc k) n lt = by_last (eqb (n % 2) 0) refl (λ half. stripped-low k (n / 2) half) where
  by_last : (b : Bool) → eqb (n % 2) 0 ≡ b → (n / 2 < 2 ^ k → StrippedLow k (n / 2) (without_zeros k (n / 2)))
      → StrippedLow (suc k) n (without_zeros (suc k) n)
  by_last true e half =
      let even : n % 2 ≡ 0 = eqb-true (n % 2) 0 e in
      let double = twice k in
      subst (StrippedLow (suc k) n) (end-step 0 k n even)
      (low-more k n (without_zeros k (n / 2)) even (half (omega (arith, double))))
  by_last false e half =
      let odd : n % 2 ≡ 0 → ⊥ = λ z. let yes = eq-eqb (n % 2) 0 z in cc in
      subst (StrippedLow (suc k) n) (end-there 0 (suc k) n odd) (low-there (suc k) n lt (inr (omega (arith, odd))))

high-there : (k n : ℕ) → n < 2 ^ k → (k ≡ 0) ⊎ (n % 2 ≡ 0) → StrippedHigh k n (bits_at n k)
high-there k n lt h =
    let none : k - k ≡ 0 = omega arith in
    record { legal = (omega arith, lt); stripped = h; end = rw none (omega arith) }

high-more : (k n : ℕ) (x : Address) → n % 2 ≡ 1 → StrippedHigh k (n / 2) x → StrippedHigh (suc k) n x
high-more k n x odd h =
    let few = h.legal.0 in
    record { legal = (omega (arith, few), h.legal.1); stripped = h.stripped; end = high-end-more k n x odd few h.end }

pub stripped-high : (k n : ℕ) → n < 2 ^ k → StrippedHigh k n (without_ones k n)
stripped-high zero n lt = subst (StrippedHigh zero n) (end-none 1 zero n refl) (high-there zero n lt (inl refl))
stripped-high (suc k) n lt = by_last (eqb (n % 2) 1) refl (λ half. stripped-high k (n / 2) half) where
  by_last : (b : Bool) → eqb (n % 2) 1 ≡ b → (n / 2 < 2 ^ k → StrippedHigh k (n / 2) (without_ones k (n / 2)))
      → StrippedHigh (suc k) n (without_ones (suc k) n)
  by_last true e half =
      let odd : n % 2 ≡ 1 = eqb-true (n % 2) 1 e in
      let double = twice k in
      subst (StrippedHigh (suc k) n) (end-step 1 k n odd)
      (high-more k n (without_ones k (n / 2)) odd (half (omega (arith, double))))
  by_last false e half =
      let even : n % 2 ≡ 1 → ⊥ = λ z. let yes = eq-eqb (n % 2) 1 z in cc in
      subst (StrippedHigh (suc k) n) (end-there 1 (suc k) n even) (high-there (suc k) n lt (inr (omega (arith, even))))

-- ---- the bits that two numbers share

same-there : (k low high : ℕ) → low ≡ high → shared_bits k low high ≡ Some (bits_at low k)
unfolding shared_bits
same-there zero low high e = rw (eq-eqb low high e) refl
same-there (suc k) low high e = rw (eq-eqb low high e) refl

shared-more : (k low high : ℕ) → (low ≡ high → ⊥) → low % 2 ≡ 0 → high % 2 ≡ 1
    → shared_bits (suc k) low high ≡ shared_bits k (low / 2) (high / 2)
unfolding shared_bits
shared-more k low high other even odd = rw (ne_eqb low high other, even, odd) refl

-- those of a prefix
pub shared-some : (k m q low high : ℕ) → m ≤ k → low ≡ q * 2 ^ m → suc high ≡ suc q * 2 ^ m
    → shared_bits k low high ≡ Some (bits_at q (k - m))
shared-some k zero q low high le l h =
    let same : low ≡ high = single low high q l h in
    let number : low ≡ q = omega arith in
    let size : k - 0 ≡ k = omega arith in
    rw size (same-there k low high same ∙ ap (λ (n : ℕ). Some (bits_at n k)) number)
shared-some zero (suc m) q low high le l h = absurd (omega arith)
shared-some (suc k) (suc m) q low high le l h =
    let double : 2 ^ suc m ≡ 2 * 2 ^ m = twice m in
    let p : low ≡ q * (2 * 2 ^ m) = rw double at l in
    let r : suc high ≡ suc q * (2 * 2 ^ m) = rw double at h in
    let even : low % 2 ≡ 0 = omega arith in
    let odd : high % 2 ≡ 1 = omega arith in
    let half : low / 2 ≡ q * 2 ^ m = omega arith in
    let above : suc (high / 2) ≡ suc q * 2 ^ m = omega arith in
    let size : suc k - suc m ≡ k - m = omega arith in
    let other : low ≡ high → ⊥ = λ e. omega arith in
    rw size (shared-more k low high other even odd ∙ shared-some k m q (low / 2) (high / 2) (omega arith) half above)

pub shared-none : (k low high : ℕ) → (IsPrefix low high → ⊥) → shared_bits k low high ≡ None
unfolding shared_bits
shared-none zero low high none = rw (ne_eqb low high (λ e. none (subst (IsPrefix low) e (one-number low)))) refl
shared-none (suc k) low high none =
    rw (ne_eqb low high (λ e. none (subst (IsPrefix low) e (one-number low))))
    (by_low (eqb (low % 2) 1) refl (λ half. shared-none k (low / 2) (high / 2) half)) where
      by_high : (b : Bool) → eqb (high % 2) 0 ≡ b → low % 2 ≡ 0
          → ((IsPrefix (low / 2) (high / 2) → ⊥) → shared_bits k (low / 2) (high / 2) ≡ None)
          → cond b None (shared_bits k (low / 2) (high / 2)) ≡ None
      by_high true e even half = refl
      by_high false e even half =
          let odd : high % 2 ≡ 0 → ⊥ = λ z. let yes = eq-eqb (high % 2) 0 z in cc in
          half (λ p. none ((halves low high even (omega (arith, odd))).1 p))

      by_low : (b : Bool) → eqb (low % 2) 1 ≡ b
          → ((IsPrefix (low / 2) (high / 2) → ⊥) → shared_bits k (low / 2) (high / 2) ≡ None)
          → cond b None (cond (eqb (high % 2) 0) None (shared_bits k (low / 2) (high / 2))) ≡ None
      by_low true e half = refl
      by_low false e half =
          let even : low % 2 ≡ 1 → ⊥ = λ z. let yes = eq-eqb (low % 2) 1 z in cc in
          by_high (eqb (high % 2) 0) refl (omega (arith, even)) half

-- all addresses that begin with the bits
pub record AreShared (k low high : ℕ) (x : Address) : Type 0 where
  pub legal : IsAddressOf k x
  pub low_is : low_end k x ≡ low
  pub high_is : high_end k x ≡ high

some-is : (x y : Address) → Some x ≡ Some y → x ≡ y
some-is x y e = cc

none-is : (x : Address) → ◌≡◌ {A = Option Address} None (Some x) → ⊥
none-is x e = cc

shared-one : (k n high : ℕ) → n ≡ high → high < 2 ^ k → AreShared k n high (bits_at n k)
shared-one k n high same lt =
    let none : k - k ≡ 0 = omega arith in
    record { legal = (omega arith, omega arith); low_is = rw none (omega arith); high_is = rw none (omega arith) }

half-shared : (k low high : ℕ) (x : Address) → low % 2 ≡ 0 → high % 2 ≡ 1 → AreShared k (low / 2) (high / 2) x
    → AreShared (suc k) low high x
half-shared k low high x even odd h =
    let few = h.legal.0 in
    record {
      legal = (
        omega (arith, few),
        h.legal.1,
      );
      low_is = low-end-more k low x even few h.low_is;
      high_is = high-end-more k high x odd few h.high_is;
    }

-- bits that are shared are those of a prefix
pub are-shared : (k low high : ℕ) (x : Address) → high < 2 ^ k → shared_bits k low high ≡ Some x
    → AreShared k low high x
unfolding shared_bits
are-shared zero low high x lt is = by_same (eqb low high) refl is where
  by_same : (b : Bool) → eqb low high ≡ b → cond b (Some (bits_at low zero)) None ≡ Some x → AreShared zero low high x
  by_same true e h = subst (AreShared zero low high) (some-is (bits_at low zero) x h)
      (shared-one zero low high (eqb-true low high e) lt)
  by_same false e h = absurd (none-is x h)
are-shared (suc k) low high x lt is = by_same (eqb low high) refl is
    (λ half. are-shared k (low / 2) (high / 2) x half) where
      by_high : (b : Bool) → eqb (high % 2) 0 ≡ b → low % 2 ≡ 0
          → cond b None (shared_bits k (low / 2) (high / 2)) ≡ Some x
          → (high / 2 < 2 ^ k → shared_bits k (low / 2) (high / 2) ≡ Some x → AreShared k (low / 2) (high / 2) x)
          → AreShared (suc k) low high x
      by_high true e even h half = absurd (none-is x h)
      by_high false e even h half =
          let odd : high % 2 ≡ 0 → ⊥ = λ z. let yes = eq-eqb (high % 2) 0 z in cc in
          let double = twice k in
          half-shared k low high x even (omega (arith, odd)) (half (omega (arith, double)) h)

      by_low : (b : Bool) → eqb (low % 2) 1 ≡ b
          → cond b None (cond (eqb (high % 2) 0) None (shared_bits k (low / 2) (high / 2))) ≡ Some x
          → (high / 2 < 2 ^ k → shared_bits k (low / 2) (high / 2) ≡ Some x → AreShared k (low / 2) (high / 2) x)
          → AreShared (suc k) low high x
      by_low true e h half = absurd (none-is x h)
      by_low false e h half =
          let even : low % 2 ≡ 1 → ⊥ = λ z. let yes = eq-eqb (low % 2) 1 z in cc in
          by_high (eqb (high % 2) 0) refl (omega (arith, even)) h half

      by_same : (b : Bool) → eqb low high ≡ b
          → cond b (Some (bits_at low (suc k)))
          (cond (eqb (low % 2) 1) None (cond (eqb (high % 2) 0) None (shared_bits k (low / 2) (high / 2)))) ≡ Some x
          → (high / 2 < 2 ^ k → shared_bits k (low / 2) (high / 2) ≡ Some x → AreShared k (low / 2) (high / 2) x)
          → AreShared (suc k) low high x
      by_same true e h half = subst (AreShared (suc k) low high) (some-is (bits_at low (suc k)) x h)
          (shared-one (suc k) low high (eqb-true low high e) lt)
      by_same false e h half = by_low (eqb (low % 2) 1) refl h half

-- and those of a prefix are shared
pub prefix-shared : (k low high : ℕ) → high < 2 ^ k → IsPrefix low high → shared_bits k low high ≡ None → ⊥
prefix-shared k low high lt (q, m, l, h) none =
    let some = shared-some k m q low high (few-missing k m q high lt h) l h in
    none-is (bits_at q (k - m)) (sym none ∙ some)

first-bits : (low q p : ℕ) → 0 < p → low ≡ q * p → low / p ≡ q
first-bits low q p some e = rw e (mul-div_left q some)

pub missing-shared : (k m low high n : ℕ) → high < 2 ^ k → ((q : ℕ) × (low ≡ q * 2 ^ m) × (suc high ≡ suc q * 2 ^ m))
    → n ≡ low / 2 ^ m
    → Some (bits_at n (k - m)) ≡ shared_bits k low high
missing-shared k m low high n lt (q, l, h) is =
    let number : q ≡ n = sym (first-bits low q (2 ^ m) (pow_pos m) l) ∙ sym is in
    ap (λ (i : ℕ). Some (bits_at i (k - m))) (sym number)
    ∙ sym (shared-some k m q low high (few-missing k m q high lt h) l h)

-- The providers of a customer together, run by run.
use Rattle.std.proofs.Common.{◌≡◌, ◌∙◌, ℕ, ◌≤◌, suc, List, [], ◌∷◌, ◌++◌, ap, refl, sym, map, take, drop, length, arith}
use Rattle.std.specs.Prelude.{Bool, true, false, ◌==◌}
use Rattle.std.proofs.Common.{append_assoc}
use Rattle.std.proofs.lemmas.Map.Views.{exact_unsigned_eq}
use Rattle.rpki_contents.specs.Aspa.{AspaParts, aspa_parts}
use Rattle.rpki_payloads.specs.declared.vap.CustomerProvider.{CustomerProvider}
use Rattle.rpki_payloads.specs.Vap.{put, run, vaps}

-- of two runs, in sequence, the same customer or not
joins : (v w : CustomerProvider) (ws : List CustomerProvider) (b : Bool) → (v.customer == w.customer) ≡ b
    → (w.customer == v.customer) ≡ b → (b ≡ true → w.customer ≡ v.customer)
    → vaps (w ∷ ws) ≡ aspa_parts w.customer (w.provider ∷ map (λ v. v.provider) (take (run w.customer ws) ws))
    ∷ vaps (drop (run w.customer ws) ws)
    → put v (aspa_parts w.customer (w.provider ∷ map (λ v. v.provider) (take (run w.customer ws) ws))
    ∷ vaps (drop (run w.customer ws) ws))
    ≡ aspa_parts v.customer (v.provider ∷ map (λ v. v.provider) (take (run v.customer (w ∷ ws)) (w ∷ ws)))
    ∷ vaps (drop (run v.customer (w ∷ ws)) (w ∷ ws))
joins v w ws true e f same h = let k = same refl in rw (e, f, k) refl
joins v w ws false e f same h =
    rw (e, f) (ap (λ (x : List AspaParts). aspa_parts v.customer (v.provider ∷ []) ∷ x) (sym h))

-- the test of two customers, either way round
pub same-test : (m n : ℕ) → (m == n) ≡ (n == m)
same-test m n = grind (arith)

-- the first customer, with the run of pairs that it has, and then the others
pub first-run : (v : CustomerProvider) (vs : List CustomerProvider)
    → vaps (v ∷ vs)
    ≡ aspa_parts v.customer (v.provider ∷ map (λ v. v.provider) (take (run v.customer vs) vs))
    ∷ vaps (drop (run v.customer vs) vs)
first-run v [] = refl
first-run v (w ∷ ws) =
    let h = first-run w ws in
    rw h (joins v w ws (v.customer == w.customer) refl (same-test w.customer v.customer)
    (λ e. sym (exact_unsigned_eq _ _ e)) h)

-- the run of all is as long as the first, and the run of the others
short : (customer : ℕ) (v : CustomerProvider) (vs : List CustomerProvider) (b : Bool) → (v.customer == customer) ≡ b
    → run customer vs ≤ length vs → run customer (v ∷ vs) ≤ length (v ∷ vs)
short customer v vs true e h = rw e (omega (arith, h))
short customer v vs false e h = rw e (omega arith)

pub run-short : (customer : ℕ) (vs : List CustomerProvider) → run customer vs ≤ length vs
run-short customer [] = omega arith
run-short customer (v ∷ vs) = short customer v vs (v.customer == customer) refl (run-short customer vs)

-- where the first pair is of the customer, it is in the run
pub in-run : (v : CustomerProvider) (vs : List CustomerProvider) → run v.customer (v ∷ vs) ≡ suc (run v.customer vs)
in-run v vs = let e : (v.customer == v.customer) ≡ true = grind arith in rw e refl

-- one run more
pub next-run : (pairs : List CustomerProvider) (all : List AspaParts) (rest following : List CustomerProvider)
    (first : CustomerProvider) (n : ℕ) (same back : List CustomerProvider) (ps : List ℕ)
    → vaps pairs ≡ all ++ vaps rest → rest ≡ first ∷ following → n ≡ run first.customer rest → same ≡ take n rest
    → back ≡ drop n rest → ps ≡ map (λ v. v.provider) same
    → vaps pairs ≡ (all ++ aspa_parts first.customer ps ∷ []) ++ vaps back
next-run pairs all rest following first n same back ps before is count front end told =
    let long : n ≡ suc (run first.customer following) =
    count ∙ ap (run first.customer) is ∙ in-run first following in
    let providers : ps ≡ first.provider ∷ map (λ v. v.provider) (take (run first.customer following) following) =
    rw (told, front, long, is) refl in
    let left : back ≡ drop (run first.customer following) following = rw (end, long, is) refl in
    before ∙ ap (λ w. all ++ vaps w) is ∙ ap (λ (w : List AspaParts). all ++ w) (first-run first following)
    ∙ rw (providers, left) (sym (append_assoc all (aspa_parts first.customer (first.provider
    ∷ map (λ v. v.provider) (take (run first.customer following) following)) ∷ [])
    (vaps (drop (run first.customer following) following))))

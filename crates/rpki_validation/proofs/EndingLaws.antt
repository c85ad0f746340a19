-- A name has one ending; what a file says whose name ends so, or otherwise.
use Rattle.std.proofs.Common.{◌≡◌, ◌∙◌, ◌-◌, ℕ, true, List, [], ◌∷◌, nat_eq, ap, sym, arith, length, drop, codes}
use Rattle.std.specs.List.{ends_with}
use Rattle.rpki_validation.specs.Taking.{Adds}
use Rattle.rpki_validation.proofs.TakingLaws.{adds-none, adds-same}
use lib.Pointwise.{bytes_decides}

second : List ℕ → ℕ
second [] = 0
second (a ∷ []) = 0
second (a ∷ b ∷ rest) = b

ending : (end name : List ℕ) → ends_with nat_eq name end ≡ true → end ≡ drop (length name - length end) name
ending end name h = (bytes_decides end (drop (length name - length end) name)).0 h

module _ (name : List ℕ) where
  abbrev pub Ends : List ℕ → Type 0
  Ends end = ends_with nat_eq name end ≡ true

  pub roa-asa : Ends (codes ".roa") → Ends (codes ".asa") → ⊥
  unfolding second
  roa-asa h k =
      let e : codes ".roa" ≡ codes ".asa" = ending (codes ".roa") name h ∙ sym (ending (codes ".asa") name k) in
      let n : 114 ≡ 97 = ap second e in
      omega (arith, n)

  pub roa-cer : Ends (codes ".roa") → Ends (codes ".cer") → ⊥
  unfolding second
  roa-cer h k =
      let e : codes ".roa" ≡ codes ".cer" = ending (codes ".roa") name h ∙ sym (ending (codes ".cer") name k) in
      let n : 114 ≡ 99 = ap second e in
      omega (arith, n)

  pub asa-cer : Ends (codes ".asa") → Ends (codes ".cer") → ⊥
  unfolding second
  asa-cer h k =
      let e : codes ".asa" ≡ codes ".cer" = ending (codes ".asa") name h ∙ sym (ending (codes ".cer") name k) in
      let n : 97 ≡ 99 = ap second e in
      omega (arith, n)

-- ---- what holds of such a file alone

module _ {V : Type 0} (T : Type 0) (P : V → Type 0) where
  abbrev And : V → Type 0
  And v = T × P v

  pub adds-where : T → (xs ys : List V) → Adds P xs ys → Adds And xs ys
  adds-where t xs ys h = adds-same P And xs ys (λ v k. (t, k)) (λ v k. k.1) h

  pub adds-never : (T → ⊥) → (xs : List V) → Adds And xs xs
  adds-never never xs = adds-none And xs (λ v k. never k.0)

-- What a change of a map at one text does to the files.
use Rattle.std.proofs.Common.{◌≡◌, ◌≢◌, ◌∙◌, ℕ, false, List, Option, Some, None, String, BTreeMap, Vec, is_some, sym}
use Rattle.std.proofs.Common.{refl, ap, subst, ⊎_elim}
use Rattle.std.specs.BTreeMap.{get_by_text}
use Rattle.std.specs.Map.{update}
use Rattle.std.specs.Str.{bytes_eq}
use Rattle.std.specs.Option.{option_map}
use Rattle.std.specs.Cmp.Lexicographic.{bytes_decides, nat_list_eq_equiv}
use Rattle.std.proofs.lemmas.Bool.{cases_Bool, cond-true, cond-false, true≢false}
use Rattle.rpki_cli.specs.Memory.{files_of, IsPut, IsCarried, IsSet}

-- n has w at the text bs, and at each other text what m has
abbrev pub Sets : {Y Z : Type 0} → BTreeMap (String Y) (Vec ℕ Z) → BTreeMap (String Y) (Vec ℕ Z) → List ℕ → Option
    (Vec ℕ Z) → Type 0
Sets m n bs w = (cs : List ℕ) → get_by_text n cs ≡ update bytes_eq (get_by_text m) bs w cs

nothing_there : {X V : Type 0} (f : X → V) (o : Option X) → is_some o ≡ false → option_map f o ≡ None
nothing_there f None e = refl
nothing_there f (Some v) e = absurd (true≢false e)

module _ {Y Z : Type 0} where
  pub at_name : (m n : BTreeMap (String Y) (Vec ℕ Z)) (bs : List ℕ) (w : Option (Vec ℕ Z)) → Sets m n bs w
      → files_of n bs ≡ option_map (λ v. v.items) w
  at_name m n bs w sets = ap (option_map (λ v. v.items)) (sets bs ∙ cond-true (bytes_eq bs bs) w (get_by_text m bs)
      (nat_list_eq_equiv.refl bs))

  pub elsewhere : (m n : BTreeMap (String Y) (Vec ℕ Z)) (bs : List ℕ) (w : Option (Vec ℕ Z)) → Sets m n bs w
      → (cs : List ℕ) → cs ≢ bs → files_of n cs ≡ files_of m cs
  elsewhere m n bs w sets cs apart =
      ⊎_elim (λ t. absurd (apart (sym ((bytes_decides bs cs).0 t))))
      (λ f. ap (option_map (λ v. v.items)) (sets cs ∙ cond-false (bytes_eq bs cs) w (get_by_text m cs) f))
      (cases_Bool (bytes_eq bs cs))

  pub is_put : (m n : BTreeMap (String Y) (Vec ℕ Z)) (name other beside text key : List ℕ) (v : Vec ℕ Z) → key ≡
      beside
      → Sets m n key (Some v) → v.items ≡ text → is_some (get_by_text m beside) ≡ false → name ≢ beside → other ≢
      beside
      → IsPut m n name other beside text
  is_put m n name other beside text key v is sets has absent apart other_apart =
      let at_beside : Sets m n beside (Some v) = subst (λ k. Sets m n k (Some v)) is sets in
      record {
        fresh = nothing_there (λ v. v.items) (get_by_text m beside) absent;
        apart = apart;
        other_apart = other_apart;
        there = at_name m n beside (Some v) at_beside ∙ ap Some has;
        others = elsewhere m n beside (Some v) at_beside;
      }

  pub is_set : (m n : BTreeMap (String Y) (Vec ℕ Z)) (name key : List ℕ) (v : Vec ℕ Z) → key ≡ name
      → Sets m n key (Some v) → IsSet m n name v.items
  is_set m n name key v is sets =
      let at_it : Sets m n name (Some v) = subst (λ k. Sets m n k (Some v)) is sets in
      record { there = at_name m n name (Some v) at_it; others = elsewhere m n name (Some v) at_it }

  pub is_carried : (m mid n : BTreeMap (String Y) (Vec ℕ Z)) (from to key : List ℕ) (v u : Vec ℕ Z) → key ≡ to
      → Sets m mid key (Some v) → get_by_text m from ≡ Some u → v.items ≡ u.items → Sets mid n from None → from ≢ to
      → IsCarried m n from to
  is_carried m mid n from to key v u is sets was has gone apart =
      let at_to : Sets m mid to (Some v) = subst (λ k. Sets m mid k (Some v)) is sets in
      record {
        there = elsewhere mid n from None gone to (λ e. apart (sym e)) ∙ at_name m mid to (Some v) at_to ∙ ap Some has
            ∙ sym (ap (option_map (λ x. x.items)) was);
        gone = λ _. at_name mid n from None gone;
        others = λ k a b. elsewhere mid n from None gone k a ∙ elsewhere m mid to (Some v) at_to k b;
      }

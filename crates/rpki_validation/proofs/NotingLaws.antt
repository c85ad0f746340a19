-- Notes of pairs, pair after pair.
use Rattle.std.proofs.Common.{◌≡◌, ◌⊎◌, ◌++◌, inl, inr, List, [], ◌∷◌, length, subst, arith}
use Rattle.std.specs.List.{Contains}
use Rattle.std.proofs.lemmas.List.Elements.{Contains-append_left, Contains-push, Contains-push_cases}
use Rattle.rpki_validation.specs.Noting.{AddsOnly, AnyPair, EachPair, Noted, Notes, Within}

module _ {V : Type 0} where
  pub within-itself : (xs : List V) → Within xs xs
  within-itself xs v h = h

  pub within-push : (xs : List V) (x : V) → Within xs (xs ++ x ∷ [])
  within-push xs x v h = Contains-append_left xs (x ∷ []) v h

  pub within-then : (xs ys zs : List V) → Within xs ys → Within ys zs → Within xs zs
  within-then xs ys zs h k v c = k v (h v c)

  pub adds-nothing : (P : V → Type 0) (xs : List V) → AddsOnly P xs xs
  adds-nothing P xs v h = inl h

  -- one is added
  pub adds-one : (P : V → Type 0) (xs : List V) (x : V) → P x → AddsOnly P xs (xs ++ x ∷ [])
  adds-one P xs x h v c = by (Contains-push_cases xs x v c) where
    by : Contains xs v ⊎ (x ≡ v) → Contains xs v ⊎ P v
    by (inl k) = inl k
    by (inr e) = inr (subst P e h)

  pub adds-more : (P Q : V → Type 0) (xs ys zs : List V) → ((v : V) → Q v → P v) → AddsOnly P xs ys → AddsOnly Q ys zs
      → AddsOnly P xs zs
  adds-more P Q xs ys zs f h k v c = first (k v c) where
    first : Contains ys v ⊎ Q v → Contains xs v ⊎ P v
    first (inl m) = h v m
    first (inr q) = inr (f v q)

  pub adds-map : (P Q : V → Type 0) (xs ys : List V) → ((v : V) → P v → Q v) → AddsOnly P xs ys → AddsOnly Q xs ys
  adds-map P Q xs ys f h v c = by (h v c) where
    by : Contains xs v ⊎ P v → Contains xs v ⊎ Q v
    by (inl k) = inl k
    by (inr p) = inr (f v p)

  pub noted-more : (P : V → Type 0) (xs ys : List V) → Within xs ys → Noted P xs → Noted P ys
  noted-more P xs ys h k = (k.0, h k.0 k.1, k.2)

  pub noted-map : (P Q : V → Type 0) (xs : List V) → ((v : V) → P v → Q v) → Noted P xs → Noted Q xs
  noted-map P Q xs f h = (h.0, h.1, f h.0 h.2)

  pub noted-push : (P : V → Type 0) (xs : List V) (x : V) → P x → Noted P (xs ++ x ∷ [])
  noted-push P xs x h = (x, Contains-push xs x, h)

-- ---- pairs

module _ {A B : Type 0} where
  pub none-pair : (P : A → B → Type 0) (rest : List A) (more : List B) → length rest ≡ 0 → EachPair P rest more
  none-pair P [] more short = tt
  none-pair P (a ∷ xs) more short = absurd (omega (arith, short))

  pub pair-none : (P : A → B → Type 0) (rest : List A) (more : List B) → length more ≡ 0 → EachPair P rest more
  pair-none P [] more short = tt
  pair-none P (a ∷ xs) [] short = tt
  pair-none P (a ∷ xs) (b ∷ ys) short = absurd (omega (arith, short))

-- what is added is of the pairs in front of the rest
pub record AddsUpTo {A B V : Type 0} (Of : A → B → V → Type 0) (xs rest : List A) (ys more : List B) (old now : List V)
    : Type 0 where
  pub any : (v : V) → AnyPair (λ a b. Of a b v) rest more → AnyPair (λ a b. Of a b v) xs ys
  pub each : AddsOnly (λ v. AnyPair (λ a b. Of a b v) xs ys) old now

module _ {A B V : Type 0} (Of : A → B → V → Type 0) (xs : List A) (ys : List B) (old : List V) where
  pub adds-start : AddsUpTo Of xs xs ys ys old old
  adds-start = record { any = λ v h. h; each = λ v h. inl h }

  module _ (a : A) (rest : List A) (b : B) (more : List B) (now : List V)
      (before : AddsUpTo Of xs (a ∷ rest) ys (b ∷ more) old now) (then : List V) where
    pub adds-step : AddsOnly (Of a b) now then → AddsUpTo Of xs rest ys more old then
    adds-step h = record {
      any = λ v k. before.any v (inr k);
      each = adds-more (λ v. AnyPair (λ a b. Of a b v) xs ys) (Of a b) old now then
          (λ v k. before.any v (inl k)) before.each h;
    }

-- for each pair in front of the rest something is right, or noted
pub record NotesUpTo {A B V : Type 0} (Right : A → B → Type 0) (Note : A → B → V → Type 0) (xs rest : List A)
    (ys more : List B) (old now : List V) : Type 0 where
  pub adds : AddsUpTo Note xs rest ys more old now
  pub all : (then : List V) → Within now then → EachPair (λ a b. Right a b ⊎ Noted (Note a b) then) rest more
      → EachPair (λ a b. Right a b ⊎ Noted (Note a b) then) xs ys
  pub kept : Within old now

module _ {A B V : Type 0} (Right : A → B → Type 0) (Note : A → B → V → Type 0) (xs : List A) (ys : List B)
    (old : List V) where
  abbrev Settled : List V → A → B → Type 0
  Settled then a b = Right a b ⊎ Noted (Note a b) then

  pub notes-start : NotesUpTo Right Note xs xs ys ys old old
  notes-start = record {
    adds = adds-start Note xs ys old;
    all = λ then within h. h;
    kept = within-itself old;
  }

  module _ (a : A) (rest : List A) (b : B) (more : List B) (now : List V)
      (before : NotesUpTo Right Note xs (a ∷ rest) ys (b ∷ more) old now) where
    pub notes-right : Right a b → NotesUpTo Right Note xs rest ys more old now
    notes-right right = record {
      adds = adds-step Note xs ys old a rest b more now before.adds now (adds-nothing (Note a b) now);
      all = λ then within h. before.all then within (inl right, h);
      kept = before.kept;
    }

    pub notes-noted : (v : V) → Note a b v → NotesUpTo Right Note xs rest ys more old (now ++ v ∷ [])
    notes-noted v note = record {
      adds = adds-step Note xs ys old a rest b more now before.adds (now ++ v ∷ []) (adds-one (Note a b) now v note);
      all = λ then within h. before.all then (within-then now (now ++ v ∷ []) then (within-push now v) within)
          (inr (noted-more (Note a b) (now ++ v ∷ []) then within (noted-push (Note a b) now v note)), h);
      kept = within-then old now (now ++ v ∷ []) before.kept (within-push now v);
    }

  -- no pair remains
  module _ (rest : List A) (more : List B) (now : List V) (before : NotesUpTo Right Note xs rest ys more old now) where
    notes-end : EachPair (Settled now) rest more → Notes Right Note xs ys old now
    notes-end h = record {
      each = before.adds.each;
      all = before.all now (within-itself now) h;
      kept = before.kept;
    }

    pub notes-first-end : length rest ≡ 0 → Notes Right Note xs ys old now
    notes-first-end short = notes-end (none-pair (Settled now) rest more short)

    pub notes-second-end : length more ≡ 0 → Notes Right Note xs ys old now
    notes-second-end short = notes-end (pair-none (Settled now) rest more short)

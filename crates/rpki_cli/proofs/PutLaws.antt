-- What becomes of files that are made beside outputs.
use Rattle.std.proofs.Common.{◌≡◌, ◌≢◌, ◌∙◌, ◌++◌, ◌⊎◌, ℕ, Bool, true, false, List, [], ◌∷◌, map, ap, inl}
use Rattle.std.proofs.Common.{inr, refl, sym}
use Rattle.std.proofs.Common.{append-nil, append_assoc, subst, take, ⊎_elim}
use Rattle.std.proofs.lemmas.Bool.{cases_Bool, true≢false}
use Rattle.std.proofs.lemmas.List.{map-append}
use Rattle.std.specs.Cmp.Lexicographic.{bytes_decides}
use Rattle.std.specs.Prelude.{Option, Some, None}
use Rattle.std.specs.Str.{bytes_eq}
use Rattle.rpki_cli.specs.Call.{Call, printing, staging, taking}
use Rattle.rpki_cli.specs.Given.{AreOthersSame, HasFailed, HasNoMetrics, HasNone, IsAmong, IsHalf, IsLeft}
use Rattle.rpki_cli.specs.World.{IsFailed, IsPlaced, IsStaged, IsTaken, IsUnprinted, IsUnstaged, World}

-- both are one name, or not
pub one-or-not : (a b : List ℕ) → (a ≡ b) ⊎ (a ≢ b)
one-or-not a b =
    ⊎_elim (λ t. inl ((bytes_decides a b).0 t)) (λ f. inr (λ e. true≢false (sym ((bytes_decides a b).1 e) ∙ f)))
    (cases_Bool (bytes_eq a b))

-- nothing changed but names to skip, and these files, which had none before; and these calls have failed
pub record IsBut (skip left : List (List ℕ)) (old new : World) (calls : List Call) : Type 0 where
  pub others : (n : List ℕ) → (IsAmong skip n → ⊥) → IsAmong left n ⊎ (new.files n ≡ old.files n)
  pub fresh : (n : List ℕ) → IsAmong left n → old.files n ≡ None
  pub printed : new.printed ≡ old.printed
  pub told : new.told ≡ old.told
  pub failed : new.failed ≡ calls ++ old.failed

-- the file, unless it is taken away
abbrev pub left_if : (taken : Bool) → List ℕ → List (List ℕ)
left_if true name = []
left_if false name = name ∷ []

-- the name of an output isn't among these
abbrev pub Clear : Option (List ℕ) → List (List ℕ) → Type 0
Clear None left = Unit {0}
Clear (Some name) left = IsAmong left name → ⊥

among-more : (xs ys : List (List ℕ)) (n : List ℕ) → IsAmong ys n → IsAmong (xs ++ ys) n
among-more [] ys n h = h
among-more (x ∷ xs) ys n h = inr (among-more xs ys n h)

among-first : (xs ys : List (List ℕ)) (n : List ℕ) → IsAmong xs n → IsAmong (xs ++ ys) n
among-first [] ys n h = absurd h
among-first (x ∷ xs) ys n (inl e) = inl e
among-first (x ∷ xs) ys n (inr h) = inr (among-first xs ys n h)

among-cases : (xs ys : List (List ℕ)) (n : List ℕ) → IsAmong (xs ++ ys) n → IsAmong xs n ⊎ IsAmong ys n
among-cases [] ys n h = inr h
among-cases (x ∷ xs) ys n (inl e) = inl (inl e)
among-cases (x ∷ xs) ys n (inr h) = ⊎_elim (λ k. inl (inr k)) (λ k. inr k) (among-cases xs ys n h)

pub not-both : (xs ys : List (List ℕ)) (n : List ℕ) → (IsAmong xs n → ⊥) → (IsAmong ys n → ⊥)
    → IsAmong (xs ++ ys) n → ⊥
not-both xs ys n a b h = ⊎_elim a b (among-cases xs ys n h)

pub not-left : (taken : Bool) (b n : List ℕ) → n ≢ b → IsAmong (left_if taken b) n → ⊥
not-left true b n apart h = h
not-left false b n apart (inl e) = apart (sym e)
not-left false b n apart (inr h) = h

-- a name but that of the file that is taken away, or isn't, has what it had
pub kept-by : (mid new : World) (b n : List ℕ) (taken : Bool) → (taken ≡ true → IsTaken mid new b)
    → (taken ≡ false → IsFailed mid new (taking b)) → n ≢ b → new.files n ≡ mid.files n
kept-by mid new b n true gone stays apart = (gone refl).others n apart
kept-by mid new b n false gone stays apart = (stays refl).same n

module _ (old : World) where
  pub but-start : IsBut [] [] old old []
  but-start = record { others = λ n a. inr refl; fresh = λ n h. absurd h; printed = refl; told = refl; failed = refl }

  -- the same names in another order
  pub but-as : (skip left right : List (List ℕ)) (new : World) (calls : List Call)
      → ((n : List ℕ) → IsAmong left n → IsAmong right n) → ((n : List ℕ) → IsAmong right n → IsAmong left n)
      → IsBut skip left old new calls → IsBut skip right old new calls
  but-as skip left right new calls to back h = record {
    others = λ n a. ⊎_elim (λ k. inl (to n k)) (λ k. inr k) (h.others n a);
    fresh = λ n k. h.fresh n (back n k);
    printed = h.printed;
    told = h.told;
    failed = h.failed;
  }

  pub but-swap : (skip : List (List ℕ)) (a b : List ℕ) (new : World) (calls : List Call)
      → IsBut skip (a ∷ b ∷ []) old new calls → IsBut skip (b ∷ a ∷ []) old new calls
  but-swap skip a b new calls = but-as skip (a ∷ b ∷ []) (b ∷ a ∷ []) new calls (swap a b) (swap b a) where
    swap : (a b n : List ℕ) → IsAmong (a ∷ b ∷ []) n → IsAmong (b ∷ a ∷ []) n
    swap a b n (inl e) = inr (inl e)
    swap a b n (inr (inl e)) = inl e
    swap a b n (inr (inr h)) = absurd h

  pub but-last : (skip xs : List (List ℕ)) (y : List ℕ) (new : World) (calls : List Call)
      → IsBut skip (xs ++ y ∷ []) old new calls → IsBut skip (y ∷ xs) old new calls
  but-last skip xs y new calls = but-as skip (xs ++ y ∷ []) (y ∷ xs) new calls to back where
    to : (n : List ℕ) → IsAmong (xs ++ y ∷ []) n → IsAmong (y ∷ xs) n
    to n h = ⊎_elim (λ k. inr k) (λ k. ⊎_elim (λ e. inl e) (λ z. absurd z) k) (among-cases xs (y ∷ []) n h)

    back : (n : List ℕ) → IsAmong (y ∷ xs) n → IsAmong (xs ++ y ∷ []) n
    back n (inl e) = among-more xs (y ∷ []) n (inl e)
    back n (inr h) = among-first xs (y ∷ []) n h

  -- a file is made beside
  pub but-stage : (left : List (List ℕ)) (mid new : World) (calls : List Call) (name other b text : List ℕ)
      → IsBut [] left old mid calls → IsStaged mid new name other b text → IsBut [] (b ∷ left) old new calls
  but-stage left mid new calls name other b text h s = record {
    others = λ n a. ⊎_elim (λ e. inl (inl e))
        (λ d. ⊎_elim (λ k. inl (inr k)) (λ k. inr (s.others n (λ e. d (sym e)) ∙ k)) (h.others n a)) (one-or-not b n);
    fresh = fresh;
    printed = s.quiet.printed ∙ h.printed;
    told = s.quiet.told ∙ h.told;
    failed = s.quiet.failed ∙ h.failed;
  } where
    was : old.files b ≡ None
    was = ⊎_elim (λ k. h.fresh b k) (λ k. sym k ∙ s.fresh) (h.others b (λ z. z))

    fresh : (n : List ℕ) → IsAmong (b ∷ left) n → old.files n ≡ None
    fresh n (inl e) = subst (λ (x : List ℕ). old.files x ≡ None) e was
    fresh n (inr k) = h.fresh n k

  -- it takes the place of an output
  pub but-place : (skip left : List (List ℕ)) (mid new : World) (calls : List Call) (b name : List ℕ)
      → IsBut skip (b ∷ left) old mid calls → b ≢ name → IsPlaced mid new b name
      → IsBut (name ∷ skip) left old new calls
  but-place skip left mid new calls b name h apart p = record {
    others = λ n a. ⊎_elim
        (λ e. inr (subst (λ (x : List ℕ). new.files x ≡ old.files x) e (p.gone apart ∙ sym (h.fresh b (inl refl)))))
        (λ d. ⊎_elim (λ k. ⊎_elim (λ e. absurd (d e)) (λ m. inl m) k)
        (λ k. inr (p.others n (λ e. d (sym e)) (λ e. a (inl (sym e))) ∙ k)) (h.others n (λ m. a (inr m))))
        (one-or-not b n);
    fresh = λ n k. h.fresh n (inr k);
    printed = p.quiet.printed ∙ h.printed;
    told = p.quiet.told ∙ h.told;
    failed = p.quiet.failed ∙ h.failed;
  }

  -- a call fails
  pub but-fail : (skip left : List (List ℕ)) (mid new : World) (calls : List Call) (call : Call)
      → IsBut skip left old mid calls → IsFailed mid new call → IsBut skip left old new (call ∷ calls)
  but-fail skip left mid new calls call h f = record {
    others = λ n a. ⊎_elim (λ k. inl k) (λ k. inr (f.same n ∙ k)) (h.others n a);
    fresh = h.fresh;
    printed = f.printed ∙ h.printed;
    told = f.told ∙ h.told;
    failed = f.failed ∙ ap (λ cs. call ∷ cs) h.failed;
  }

  -- the first of the files is taken away, or that fails
  pub but-take : (skip left : List (List ℕ)) (mid new : World) (calls : List Call) (b : List ℕ) (taken : Bool)
      → IsBut skip (b ∷ left) old mid calls → (taken ≡ true → IsTaken mid new b)
      → (taken ≡ false → IsFailed mid new (taking b))
      → IsBut skip (left_if taken b ++ left) old new (map taking (left_if taken b) ++ calls)
  but-take skip left mid new calls b false h taken stays =
      but-fail skip (b ∷ left) mid new calls (taking b) h (stays refl)
  but-take skip left mid new calls b true h taken stays =
      let t = taken refl in
      record {
        others = λ n a. ⊎_elim
            (λ e. inr (subst (λ (x : List ℕ). new.files x ≡ old.files x) e (t.gone ∙ sym (h.fresh b (inl refl)))))
            (λ d. ⊎_elim (λ k. ⊎_elim (λ e. absurd (d e)) (λ m. inl m) k)
            (λ k. inr (t.others n (λ e. d (sym e)) ∙ k)) (h.others n a)) (one-or-not b n);
        fresh = λ n k. h.fresh n (inr k);
        printed = t.quiet.printed ∙ h.printed;
        told = t.quiet.told ∙ h.told;
        failed = t.quiet.failed ∙ h.failed;
      }

  -- a file couldn't be made, and a part of it stays, perhaps
  pub but-unstaged : (left : List (List ℕ)) (mid new : World) (calls : List Call) (name other : List ℕ)
      → IsBut [] left old mid calls → IsUnstaged mid new name other
      → (more : List (List ℕ)) × IsBut [] (more ++ left) old new (map taking more ++ (staging name ∷ calls))
      × (IsAmong more name → ⊥) × (IsAmong more other → ⊥)
  but-unstaged left mid new calls name other h (inl f) =
      ([], but-fail [] left mid new calls (staging name) h f, λ k. k, λ k. k)
  but-unstaged left mid new calls name other h (inr (b, p)) = (
    b ∷ [],
    record {
      others = λ n a. ⊎_elim (λ e. inl (inl e))
          (λ d. ⊎_elim (λ k. inl (inr k)) (λ k. inr (p.others n (λ e. d (sym e)) ∙ k)) (h.others n a))
          (one-or-not b n);
      fresh = fresh;
      printed = p.printed ∙ h.printed;
      told = p.told ∙ h.told;
      failed = p.failed ∙ ap (λ cs. taking b ∷ staging name ∷ cs) h.failed;
    },
    λ k. ⊎_elim (λ e. p.apart (sym e)) (λ z. z) k,
    λ k. ⊎_elim (λ e. p.other_apart (sym e)) (λ z. z) k,
  ) where
    was : old.files b ≡ None
    was = ⊎_elim (λ k. h.fresh b k) (λ k. sym k ∙ p.fresh) (h.others b (λ z. z))

    fresh : (n : List ℕ) → IsAmong (b ∷ left) n → old.files n ≡ None
    fresh n (inl e) = subst (λ (x : List ℕ). old.files x ≡ None) e was
    fresh n (inr k) = h.fresh n k

  -- ---- ends

  -- the calls of the files that stay, in sequence
  pub has-failed : (more left : List (List ℕ)) (new : World) (call : Call)
      → new.failed ≡ (map taking more ++ (map taking left ++ (call ∷ []))) ++ old.failed
      → HasFailed (more ++ left) old new call
  has-failed more left new call h =
      h ∙ append_assoc (map taking more) (map taking left ++ (call ∷ [])) old.failed
      ∙ ap (λ cs. map taking more ++ cs) (append_assoc (map taking left) (call ∷ []) old.failed)
      ∙ sym (append_assoc (map taking more) (map taking left) (call ∷ old.failed))
      ∙ ap (λ cs. cs ++ (call ∷ old.failed)) (sym (map-append taking more left))

  none-of : (left : List (List ℕ)) (new : World) (calls : List Call) (output : Option (List ℕ)) (text : List ℕ)
      → IsBut [] left old new calls → Clear output left → HasNone old new output text
  none-of left new calls None text h clear = (0, h.printed ∙ sym (append-nil old.printed))
  none-of left new calls (Some name) text h clear =
      (⊎_elim (λ k. absurd (clear k)) (λ k. k) (h.others name (λ z. z)), h.printed)

  no-metrics : (left : List (List ℕ)) (new : World) (calls : List Call) (metrics : Option (List ℕ))
      → IsBut [] left old new calls → Clear metrics left → HasNoMetrics old new metrics
  no-metrics left new calls None h clear = tt
  no-metrics left new calls (Some name) h clear = ⊎_elim (λ k. absurd (clear k)) (λ k. k) (h.others name (λ z. z))

  -- both outputs are as before
  pub left-of : (left : List (List ℕ)) (new : World) (calls : List Call) (output : Option (List ℕ)) (text : List ℕ)
      (metrics : Option (List ℕ)) (call : Call) → IsBut [] left old new calls → Clear output left
      → Clear metrics left → HasFailed left old new call → IsLeft old new output text metrics call
  left-of left new calls output text metrics call h clear also failed = record {
    list = none-of left new calls output text h clear;
    numbers = no-metrics left new calls metrics h also;
    left = left;
    others = record { same = λ n a b. h.others n (λ z. z); fresh = h.fresh };
    told = h.told;
    failed = failed;
  }

  -- the metrics are in place, and the output is as before
  pub half-of : (left : List (List ℕ)) (new : World) (calls : List Call) (output text metrics counts : List ℕ)
      (call : Call) → IsBut (metrics ∷ []) left old new calls → output ≢ metrics → Clear (Some output) left
      → new.files metrics ≡ Some counts → HasFailed left old new call
      → IsHalf old new (Some output) text metrics counts call
  half-of left new calls output text metrics counts call h apart clear numbers failed = record {
    list = (
      ⊎_elim (λ k. absurd (clear k)) (λ k. k)
          (h.others output (λ k. ⊎_elim (λ e. apart (sym e)) (λ z. z) k)),
      h.printed,
    );
    numbers = numbers;
    left = left;
    others = record {
      same = λ n a b. h.others n (λ k. ⊎_elim (λ e. b (ap Some e)) (λ z. z) k);
      fresh = h.fresh;
    };
    told = h.told;
    failed = failed;
  }

  -- the metrics are in place, and the text can't be printed
  pub half-printed : (mid new : World) (text metrics counts : List ℕ) → IsBut (metrics ∷ []) [] old mid []
      → mid.files metrics ≡ Some counts → IsUnprinted mid new text
      → IsHalf old new None text metrics counts (printing text)
  half-printed mid new text metrics counts h numbers u = record {
    list = (u.part.0, u.part.1 ∙ ap (λ o. o ++ take u.part.0 text) h.printed);
    numbers = u.same metrics ∙ numbers;
    left = [];
    others = record {
      same = λ n a b. ⊎_elim (λ k. absurd k) (λ k. inr (u.same n ∙ k))
          (h.others n (λ k. ⊎_elim (λ e. b (ap Some e)) (λ z. z) k));
      fresh = λ n k. absurd k;
    };
    told = u.told ∙ h.told;
    failed = u.failed ∙ ap (λ cs. printing text ∷ cs) h.failed;
  }

  -- nothing else changed
  pub same-of : (skip : List (List ℕ)) (new : World) (calls : List Call) (output metrics : Option (List ℕ))
      → IsBut skip [] old new calls
      → ((n : List ℕ) → output ≢ Some n → metrics ≢ Some n → IsAmong skip n → ⊥)
      → AreOthersSame old new output metrics
  same-of skip new calls output metrics h apart = λ n a b.
      ⊎_elim (λ k. absurd k) (λ k. k) (h.others n (apart n a b))

-- Values of one type that lead from one state to the next, over the reader of one.
use Rattle.std.proofs.Common.{◌≡◌, ◌≢◌, ◌<◌, ◌≤◌, ◌++◌, ℕ, List, [], ◌∷◌, length, Result, Ok, Err, refl, ap, subst}
use Rattle.std.proofs.Common.{arith}
use Rattle.std.proofs.Common.{length-append}
use Rattle.rpki_der.specs.declared.error.DecodeError.{DecodeError}
use Rattle.rpki_der.specs.declared.cursor.Constructed.{Constructed}
use Rattle.rpki_der.specs.Cursor.{left}
use Rattle.rpki_der.specs.Composed.{Whole}
use Rattle.rpki_der.specs.Each.{SpellsEach}
use Rattle.rpki_der.specs.Format.{Format}
use Rattle.rpki_der.specs.Fold.{Lead, FoldFault, TakesStep, TakesFold, Folded, NotFolded, Folds}
use Rattle.rpki_der.specs.Fold.FoldFault.{AfterValue}
use Rattle.rpki_der.specs.Fold.Folded.{NoneFolded, NextFolded}
use Rattle.rpki_der.specs.Fold.NotFolded.{RefusedFold, UnmovedFold}
use Rattle.rpki_der.proofs.InsideLaws.{Same}

-- one call more
pub next-folded : {S E : Type 0} (reads : S → Constructed → Result S E → Constructed → Type 0) (from now next : S)
    (s m r : List ℕ) → Folded reads from s now m → m ≢ [] → Whole (reads now) m (Ok next) r → length r < length m
    → Folded reads from s next r
next-folded reads from now next s m r NoneFolded some w short = NextFolded some w short NoneFolded
next-folded reads from now next s m r (NextFolded more v less h) some w short =
    NextFolded more v less (next-folded reads _ now next _ m r h some w short)

-- the law of fold_each, for a reader of a format in which nothing is written in no octets
module _ {S V : Type 0} (step : S → V → S → Type 0) (F : Format V)
    (reads : S → Constructed → Result S DecodeError → Constructed → Type 0)
    (law : (from : S) (b a : Constructed) (x : Result S DecodeError) → reads from b x a → TakesStep step F from (left b)
    (left a) x)
    (nowhere : (v : V) → F.spells v [] → ⊥) where
  stepped : (from : S) (s r : List ℕ) (x : Result S DecodeError) → Whole (reads from) s x r
      → TakesStep step F from s r x
  stepped from s r x w =
      subst (λ (q : List ℕ). TakesStep step F from q r x) w.all
      (subst (λ (q : List ℕ). TakesStep step F from (left w.before) q x) w.rest (law from w.before w.after x w.read))

  led : (from to : S) (s r : List ℕ) → Folded reads from s to r → r ≡ []
      → (vs : List V) × SpellsEach F.spells vs s × Lead step from vs to
  led from to s r NoneFolded end = ([], end, refl)
  led from to s r (NextFolded {next = next} some w short h) end =
      let one = stepped from s _ (Ok next) w in
      let others = led next to _ r h end in
      (one.0 ∷ others.0, (_, one.1.spells, others.1), (next, one.2, others.2))

  fault : (from now : S) (s m : List ℕ) (e : DecodeError) → Folded reads from s now m → FoldFault step F now m e
      → FoldFault step F from s e
  fault from now s m e NoneFolded f = f
  fault from now s m e (NextFolded {next = next} some w short h) f =
      let one = stepped from s _ (Ok next) w in
      AfterValue one.0 next _ one.1 one.2 (fault next now _ m e h f)

  not-folded : (from : S) (s : List ℕ) (e : DecodeError) → NotFolded Same reads from s e → FoldFault step F from s e
  not-folded from s e (RefusedFold now m d h some w) = fault from now s m e h (stepped now m d (Err e) w some)
  not-folded from s e (UnmovedFold now next m d h some w long same) =
      let one = stepped now m d (Ok next) w in
      absurd (stays one.1.spells.front m d one.0 one.1.spells.parts one.1.spells.spelled long) where
        stays : (p m d : List ℕ) (v : V) → m ≡ p ++ d → F.spells v p → length m ≤ length d → ⊥
        stays [] m d v is g le = nowhere v g
        stays (y ∷ ys) m d v is g le = omega (arith, ap length is, length-append (y ∷ ys) d)

  pub takes-fold : (from : S) (s r : List ℕ) (x : Result S DecodeError) → Folds Same reads from s r x
      → TakesFold step F from s r x
  takes-fold from s r (Ok to) h = let k = led from to s [] h.1 refl in (h.0, k.0, k.1, k.2)
  takes-fold from s r (Err e) h = (h.0, not-folded from s e h.1)

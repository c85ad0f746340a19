-- Blocks that are kept as they are given.
use Rattle.std.proofs.Common.{◌≡◌, ℕ, List, [], ◌∷◌, ◌++◌, Option, Some, None, refl, sym, ap, ◌∙◌, subst, append_assoc}
use Rattle.std.proofs.lemmas.List.{append-nil}
use Rattle.rpki_der.specs.declared.error.DecodeError.{DecodeError}
use Rattle.rpki_der.specs.declared.error.DecodeError.TheVariants.{OutOfMemory}
use Rattle.rpki_der.specs.Reading.{Refusal, Finds}
use Rattle.rpki_der.specs.Format.{Format, kept}
use Rattle.rpki_der.proofs.ReadingLaws.{or-memory-where}
use Rattle.rpki_resources.specs.declared.block.Block.{Block}
use Rattle.rpki_resources.specs.declared.choice.ResourcesChoice.{ResourcesChoice}
use Rattle.rpki_resources.specs.declared.choice_view.ChoiceView.{ChoiceView}
use Rattle.rpki_resources.specs.declared.resources.IpResources.{IpResources}
use Rattle.rpki_resources.specs.declared.resources.AsResources.{AsResources}
use Rattle.rpki_resources.specs.declared.ip_view.IpResourcesView.{IpResourcesView}
use Rattle.rpki_resources.specs.Composing.{standing_for}
use Rattle.rpki_resources.specs.Kept.{IsOnlyChoiceOf, AreIpResourcesOf, AreAsResourcesOf}
use Rattle.rpki_resources.proofs.ComposingLaws.{standing-refused}
use Rattle.rpki_resources.specs.Blocks.{AreCanonical}
use Rattle.rpki_resources.specs.InPlace.{Octets, Holds, HoldsOnly, Rest, IsLeft, Gives}

-- the blocks that x holds are xs, and the rest of them
abbrev pub Kept : Octets → List Block → Rest → Type 0
Kept x xs rest = (bs : List Block) → Holds x bs → (ds : List Block) × IsLeft rest ds × (bs ≡ xs ++ ds)

module _ (x : Octets) (xs : List Block) (before : Rest) (kept : Kept x xs before) (found : Option Block) (after : Rest)
    (given : (bs : List Block) → IsLeft before bs → Gives bs found after) where
  pub one-kept : (b : Block) → found ≡ Some b → Kept x (xs ++ (b ∷ [])) after
  one-kept b is bs h = let k = kept bs h in step k.0 k.2 (given k.0 k.1) where
    step : (ds : List Block) → bs ≡ xs ++ ds → Gives ds found after
        → (es : List Block) × IsLeft after es × (bs ≡ (xs ++ (b ∷ [])) ++ es)
    step [] e g = let no : Some b ≡ None = sym is ∙ g.0 in absurd (cc)
    step (d ∷ ds) e g =
        let same : Some b ≡ Some d = sym is ∙ g.0 in
        let one : b ≡ d = cc in
        (ds, g.1, e ∙ ap (λ (y : Block). xs ++ (y ∷ ds)) (sym one) ∙ sym (append_assoc xs (b ∷ []) ds))

  pub all-kept : found ≡ None → (bs : List Block) → Holds x bs → bs ≡ xs
  all-kept is bs h = let k = kept bs h in step k.0 k.2 (given k.0 k.1) where
    step : (ds : List Block) → bs ≡ xs ++ ds → Gives ds found after → bs ≡ xs
    step [] e g = e ∙ append-nil xs
    step (d ∷ ds) e g = let no : Some d ≡ None = sym g.0 ∙ is in absurd (cc)

pub held-only : (x : Octets) (xs : List Block) → ((bs : List Block) × Holds x bs)
    → ((bs : List Block) → Holds x bs → bs ≡ xs) → HoldsOnly x xs
held-only x xs some all = (subst (Holds x) (all some.0 some.1) some.1, all)

pub kept-canonical : (x : Octets) (xs : List Block) → HoldsOnly x xs → AreCanonical xs
kept-canonical x xs h = h.0.blocks.canonical

-- ---- choices

abbrev pub ip_of : ResourcesChoice → ResourcesChoice → IpResources
ip_of v4 v6 = record { v4 = v4; v6 = v6 }

abbrev pub as_of : ResourcesChoice → AsResources
as_of numbers = record { numbers = numbers }

pub ip-only : (x : IpResourcesView) (v4 v6 : ResourcesChoice) → IsOnlyChoiceOf v4 x.v4 → IsOnlyChoiceOf v6 x.v6
    → (w : IpResources) → AreIpResourcesOf w x → w ≡ ip_of v4 v6
ip-only x v4 v6 h k w both = ap (λ (y : ResourcesChoice). ip_of y w.v6) (h.1 w.v4 both.0)
    ∙ ap (λ (y : ResourcesChoice). ip_of v4 y) (k.1 w.v6 both.1)

pub as-only : (x : ChoiceView) (v : ResourcesChoice) → IsOnlyChoiceOf v x → (w : AsResources) → AreAsResourcesOf w x
    → w ≡ as_of v
as-only x v h w k = ap (λ (y : ResourcesChoice). as_of y) (h.1 w.numbers k)

-- ---- readers that keep what was read

pub not-read : {V O : Type 0} (R : V → O → Type 0) (F : Format O) {s q : List ℕ} {e : DecodeError}
    → (F.fault s OutOfMemory → ⊥) → Refusal F.spells F.fault s q e
    → Refusal (standing_for R (kept F)).spells (standing_for R (kept F)).fault s s e
not-read R F {s} {q} {e} never h =
    standing-refused R (kept F) (record {
      unchanged = refl;
      refuses = h.refuses;
      kind = or-memory-where (Finds F.spells) F.fault s e (λ k. absurd (never k)) h.kind;
    })

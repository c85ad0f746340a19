-- A cursor over blocks in place.
use Rattle.std.proofs.Common.{◌≡◌, ◌≢◌, ℕ, List, [], ◌∷◌, Option, Some, None, refl, sym, subst}
use Rattle.rpki_der.specs.declared.error.DecodeError.{DecodeError}
use Rattle.rpki_der.specs.Reading.{Spells, Accepts, Refusal}
use Rattle.rpki_der.proofs.InsideLaws.{unless-memory}
use Rattle.rpki_resources.specs.declared.block.Block.{Block}
use Rattle.rpki_resources.specs.declared.kind.ResourceKind.{ResourceKind}
use Rattle.rpki_resources.specs.Listed.{SpellsNext, SpellsFollowing, IsNextFault}
use Rattle.rpki_resources.specs.InPlace.{rest_of, Gives}
use Rattle.rpki_resources.proofs.FollowLaws.{next-some, next-no-memory}

module _ (kind : ResourceKind) (last : Option ℕ) (s : List ℕ) where
  pub gives-none : s ≡ [] → (bs : List Block) → SpellsFollowing kind last bs s → Gives bs None (rest_of kind last s)
  gives-none end [] h = (refl, h)
  gives-none end (b ∷ bs) h = absurd (next-some kind last b h.0
      (subst (λ (m : List ℕ). Spells (SpellsNext kind last) m b h.0) end h.1))

  module _ (b : Block) (q : List ℕ) (some : s ≢ []) (a : Accepts (SpellsNext kind last) s b q) where
    pub gives-next : (bs : List Block) → SpellsFollowing kind last bs s
        → Gives bs (Some b) (rest_of kind (Some b.high) q)
    gives-next [] h = absurd (some h)
    gives-next (d ∷ bs) h =
        let is = a.only d h.0 h.1 in (
          subst (λ (y : Block). Some b ≡ Some y) (sym is.0) refl,
          subst (λ (m : List ℕ). SpellsFollowing kind (Some b.high) bs m) is.1
              (subst (λ (y : Block). SpellsFollowing kind (Some y.high) bs h.0) is.0 h.2),
        )

    others : (bs : List Block) → SpellsFollowing kind last bs s
        → (ds : List Block) × SpellsFollowing kind (Some b.high) ds q
    others [] h = absurd (some h)
    others (d ∷ bs) h = (bs, (gives-next (d ∷ bs) h).1)

    pub left-after : ((bs : List Block) × SpellsFollowing kind last bs s)
        → (ds : List Block) × SpellsFollowing kind (Some b.high) ds q
    left-after h = others h.0 h.1

  pub never-refused : (r : List ℕ) (e : DecodeError) → s ≢ []
      → Refusal (SpellsNext kind last) (IsNextFault kind last) s r e → (bs : List Block)
      → SpellsFollowing kind last bs s → ⊥
  never-refused r e some h [] k = some k
  never-refused r e some h (d ∷ bs) k = unless-memory e (next-no-memory kind last s e h.kind) h.refuses d k.0 k.1

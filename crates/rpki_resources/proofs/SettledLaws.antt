-- Resources down a chain.
use Rattle.std.proofs.Common.{◌≡◌, ◌↔◌, inl, inr, List, [], ◌∷◌, ◌++◌, refl, subst}
use Rattle.rpki_resources.specs.declared.block.Block.{Block}
use Rattle.rpki_resources.specs.declared.choice.ResourcesChoice.{ResourcesChoice}
use Rattle.rpki_resources.specs.declared.choice.ResourcesChoice.TheVariants.{Missing, Inherit, Blocks}
use Rattle.rpki_resources.specs.Blocks.{IsAmong, IsSubset}
use Rattle.rpki_resources.specs.Settled.{IsSettled, IsTrimmed, IsSettledByEither, SettlesDown}

same-within : (xs ys : List Block) → xs ≡ ys → IsSubset xs ys
same-within xs ys e n h = subst (IsAmong n) e h

settled-within : (choice : ResourcesChoice) (issuer subject : List Block) → IsSettled choice issuer subject
    → IsSubset subject issuer
settled-within Missing issuer subject h n a = absurd (subst (IsAmong n) h.claimed a)
settled-within Inherit issuer subject h n a = subst (IsAmong n) h.claimed a
settled-within (Blocks bs) issuer subject h n a = h.within n (subst (IsAmong n) h.claimed a)

trimmed-within : (choice : ResourcesChoice) (issuer subject : List Block) → IsTrimmed choice issuer subject
    → IsSubset subject issuer
trimmed-within Missing issuer subject h n a = absurd (subst (IsAmong n) h a)
trimmed-within Inherit issuer subject h n a = subst (IsAmong n) h a
trimmed-within (Blocks bs) issuer subject h n a = ((h.numbers n).0 a).1

either-within : (choice : ResourcesChoice) (issuer subject : List Block) → IsSettledByEither choice issuer subject
    → IsSubset subject issuer
either-within choice issuer subject (inl h) = settled-within choice issuer subject h
either-within choice issuer subject (inr h) = trimmed-within choice issuer subject h

pub down-within : (top bottom : List Block) (choices : List ResourcesChoice) → SettlesDown top choices bottom
    → IsSubset bottom top
down-within top bottom [] h = same-within bottom top h
down-within top bottom (choice ∷ choices) h =
    λ n a. either-within choice top h.0 h.1 n (down-within h.0 bottom choices h.2 n a)

apart : (top bottom : List Block) (upper lower : List ResourcesChoice) → SettlesDown top (upper ++ lower) bottom
    → (middle : List Block) × SettlesDown top upper middle × SettlesDown middle lower bottom
apart top bottom [] lower h = (top, refl, h)
apart top bottom (choice ∷ upper) lower h = let k = apart h.0 bottom upper lower h.2 in (k.0, (h.0, h.1, k.1), k.2)

together : (top bottom middle : List Block) (upper lower : List ResourcesChoice) → SettlesDown top upper middle
    → SettlesDown middle lower bottom → SettlesDown top (upper ++ lower) bottom
together top bottom middle [] lower h k = subst (λ (m : List Block). SettlesDown m lower bottom) h k
together top bottom middle (choice ∷ upper) lower h k = (h.0, h.1, together h.0 bottom middle upper lower h.2 k)

pub down-joins : (top bottom : List Block) (upper lower : List ResourcesChoice)
    → SettlesDown top (upper ++ lower) bottom
    ↔ ((middle : List Block) × SettlesDown top upper middle × SettlesDown middle lower bottom)
down-joins top bottom upper lower = (apart top bottom upper lower, λ h. together top bottom h.0 upper lower h.1 h.2)

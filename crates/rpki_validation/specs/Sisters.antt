-- Authorities so many steps below a trust anchor.
use Rattle.std.specs.Prelude.{◌≡◌, ◌⊎◌, ◌+◌, ◌≤◌, ℕ, List}
use Rattle.std.specs.List.{Contains}
use Rattle.jiff.specs.Types.{DateTime}
use Rattle.rpki_time.specs.Validity.{HoldsAt}
use Rattle.rpki_valid.specs.Verified.{Authority, Terms}

-- an authority so many steps below the trust anchor, all of whose path is valid at the moment
pub record IsSister {X : Type 0} (terms : Terms) (provider : X) (at : DateTime) (depth : ℕ) (a : Authority X) : Type 0
  where
    pub period : HoldsAt a.period at
    pub terms_are : a.terms ≡ terms
    pub provider_is : a.provider ≡ provider
    pub depth_is : a.depth ≡ depth
    pub few : depth ≤ terms.deepest

-- each of these was among those, or is one step below the issuer
abbrev pub AreSistersBelow : {X : Type 0} → Authority X → DateTime → List (Authority X) → List (Authority X) → Type 0
AreSistersBelow {X} issuer at old new =
    (a : Authority X) → Contains new a
    → Contains old a ⊎ IsSister issuer.terms issuer.provider at (issuer.depth + 1) a

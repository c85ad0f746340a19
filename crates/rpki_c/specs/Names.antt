-- What a status says of the octets of a name.
use Rattle.std.specs.Prelude.{◌≡◌, ◌⊎◌, ◌<◌, ℕ, zero, suc, Bool, List, IsTrue}
use Rattle.rpki_der.specs.declared.error.DecodeError.{DecodeError}
use Rattle.rpki.specs.Name.{IsName, SpellsNameOctets}
use Rattle.rpki.specs.NameFault.{IsWalkedNameFault}
use Rattle.rpki.specs.StrictName.{IsRpkiName, IsRouterName}
use Rattle.rpki.specs.NameRule.{BreaksRpkiRule, BreaksRouterRule}
use Rattle.rpki.specs.declared.repository.x509.name.rule.NameRule.{NameRule}
use Rattle.rpki_c.specs.Status.{rule_number, no_profile}
use Rattle.rpki_c.specs.Whole.{IsRefused, NeverMemory}

-- the error of a reader of one name, and of nothing else, that allocates nothing
abbrev pub IsWholeNameFault : List ℕ → DecodeError → Type 0
IsWholeNameFault = NeverMemory SpellsNameOctets IsWalkedNameFault

-- 0 is the profile of the RPKI, and any other number that of routers
abbrev pub IsOfProfile : ℕ → List ℕ → Type 0
IsOfProfile zero s = IsRpkiName s
IsOfProfile (suc n) s = IsRouterName s

-- of the rules of the profile the name breaks this one first
abbrev pub BreaksProfile : ℕ → NameRule → List ℕ → Type 0
BreaksProfile zero rule s = BreaksRpkiRule rule s
BreaksProfile (suc n) rule s = BreaksRouterRule rule s

-- Status 0: the octets are a name, and one of the profile unless strict is false. 32 to 37: they are a name, strict is
-- true, and the name is not of the profile, whose rule of this number it breaks first. 12: no profile has the number.
-- Else the number of the error.
abbrev pub IsInspected : List ℕ → ℕ → Bool → ℕ → Type 0
IsInspected s profile strict status =
    ((status ≡ 0) × (profile < 2) × IsName s × (IsTrue strict → IsOfProfile profile s))
    ⊎ ((rule : NameRule) × (status ≡ rule_number rule) × (profile < 2) × IsTrue strict × BreaksProfile profile rule s
    × (IsOfProfile profile s → ⊥))
    ⊎ ((status ≡ no_profile) × (1 < profile))
    ⊎ ((profile < 2) × IsRefused SpellsNameOctets IsWholeNameFault s status)

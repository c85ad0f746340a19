-- What the inspection of a name stands for.
use Rattle.std.specs.Prelude.{ℕ, Bool, List, ◌++◌, Result, Ok, Err, MatchResult}
use Rattle.rpki.specs.declared.repository.x509.name.inspection.Profile.{Profile}
use Rattle.rpki.specs.declared.repository.x509.name.inspection.Profile.TheVariants.{Rpki, Router}
use Rattle.rpki.specs.Name.{Attribute}
use Rattle.rpki.specs.NameTable.{Row, name_table}
use Rattle.rpki.specs.StrictName.{IsPrintable, IsPrintableOrUtf8, IsStrict, IsNameOf}
use Rattle.rpki.specs.Findings.{IsFound}
use Rattle.rpki.specs.NameRule.{FirstBreaks, BreaksRule}
use Rattle.rpki.specs.declared.repository.x509.name.rule.NameRule.{NameRule}

-- a string that a profile permits
abbrev pub IsStringOf : Profile → List ℕ → Type 0
IsStringOf Rpki = IsPrintable
IsStringOf Router = IsPrintableOrUtf8

-- after attributes in which `found` was found come these: what is found in all of them, or the rule that they break
-- first
abbrev pub Finds : List Row → (List ℕ → Type 0) → List Bool → List Attribute → Result (List Bool) NameRule → Type 0
Finds table IsString found xs (Ok more) = (before : List Attribute) → IsFound table IsString found before
    → IsFound table IsString more (before ++ xs)
Finds table IsString found xs (Err rule) = (before : List Attribute) → IsFound table IsString found before
    → FirstBreaks table IsString rule (before ++ xs)

-- the same, by the rules of a profile
abbrev pub FindsBy : Profile → List Bool → List Attribute → Result (List Bool) NameRule → Type 0
FindsBy profile = Finds name_table (IsStringOf profile)

-- the octets are a name that passes the rules of a profile, or this is the rule that it breaks first
abbrev pub Inspects : Profile → List ℕ → Result (Unit {0}) NameRule → Type 0
Inspects profile octets result = MatchResult result (λ _. IsNameOf (IsStrict name_table (IsStringOf profile)) octets)
    (λ rule. IsNameOf (BreaksRule name_table (IsStringOf profile) rule) octets)

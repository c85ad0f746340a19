-- A name that is strict without an organization name is strict.
use Rattle.std.proofs.Common.{ℕ, List, [], ◌∷◌, refl}
use Rattle.std.specs.Prelude.{Result, Ok, Err, IsOk, IfErr}
use Rattle.rpki.specs.NameTable.{organization_row, table_without_organization, name_table}
use Rattle.rpki.specs.StrictName.{IsStrict, IsNameOf}
use Rattle.rpki.proofs.NameTableLaws.{includes-front, name-permitted}

pub name-strict : (S : List ℕ → Type 0) (octets : List ℕ) → IsNameOf (IsStrict table_without_organization S) octets
    → IsNameOf (IsStrict name_table S) octets
name-strict S octets h = name-permitted table_without_organization name_table S octets
    (includes-front table_without_organization (organization_row ∷ [])) h

-- what is rejected only where it isn't strict is accepted where it is strict without an organization name
pub passes : {E : Type 0} (Q Strict Old : Type 0) (r : Result (Unit {0}) E) → IfErr r (λ e. Q × (Strict → ⊥))
    → (Old → Strict) → Old → IsOk r
passes Q Strict Old (Ok u) h strict old = refl
passes Q Strict Old (Err e) h strict old = absurd (h.1 (strict old))

-- Names without an organization name, as RFC 6487 4.4 and RFC 8209 3.1.1 have them. Each of them is a strict name.
use Rattle.std.specs.Prelude.{ℕ, List}
use Rattle.rpki.specs.NameTable.{table_without_organization}
use Rattle.rpki.specs.StrictName.{IsPrintable, IsPrintableOrUtf8, IsStrict, IsNameOf}

-- a name of the RPKI
abbrev pub IsRpkiNameWithoutOrganization : List ℕ → Type 0
IsRpkiNameWithoutOrganization = IsNameOf (IsStrict table_without_organization IsPrintable)

-- a name of a router
abbrev pub IsRouterNameWithoutOrganization : List ℕ → Type 0
IsRouterNameWithoutOrganization = IsNameOf (IsStrict table_without_organization IsPrintableOrUtf8)

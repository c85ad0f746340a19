-- Tables of the attributes that names may have. A table is a list of rows; the number of a row is its place there.
use Rattle.std.specs.Prelude.{◌≡◌, ◌<◌, ℕ, List, [], ◌∷◌, ◌++◌, length, slice_index_or}
use Rattle.rpki.specs.Oids.{common_name, serial_number, organization_name}
use Rattle.rpki.specs.declared.repository.x509.name.rule.NameRule.{NameRule}
use Rattle.rpki.specs.declared.repository.x509.name.rule.NameRule.TheVariants.{SecondCommonName, SecondSerialNumber}
use Rattle.rpki.specs.declared.repository.x509.name.rule.NameRule.TheVariants.{SecondOrganizationName}

-- an attribute that names may have, once at most: the contents of its identifier, and the rule that a second one breaks
pub record Row : Type 0 where
  pub identifier : List ℕ
  pub second : NameRule

abbrev pub row : List ℕ → NameRule → Row
row identifier second = record { identifier = identifier; second = second }

-- the row of this number, where the table has one
abbrev pub row_at : List Row → ℕ → Row
row_at table n = slice_index_or table n (row [] SecondCommonName)

-- the row of this number is that of the identifier
pub record HasRow (table : List Row) (n : ℕ) (identifier : List ℕ) : Type 0 where
  pub below : n < length table
  pub same : (row_at table n).identifier ≡ identifier

-- the attributes that RFC 6487 4.4 and RFC 8209 3.1.1 name
abbrev pub table_without_organization : List Row
table_without_organization = row common_name SecondCommonName ∷ row serial_number SecondSerialNumber ∷ []

-- the attribute that is permitted beside them
abbrev pub organization_row : Row
organization_row = row organization_name SecondOrganizationName

-- the attributes that names may have
abbrev pub name_table : List Row
name_table = table_without_organization ++ organization_row ∷ []

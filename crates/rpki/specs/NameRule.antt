-- Which rule of its profile a name breaks first, from the left (RFC 6487 4.4, RFC 8209 3.1.1).
use Rattle.std.specs.Prelude.{◌≡◌, ◌⊎◌, ℕ, Bool, List, [], ◌∷◌, ◌++◌, codes}
use Rattle.rpki.specs.Oids.{common_name}
use Rattle.rpki.specs.Name.{Attribute}
use Rattle.rpki.specs.NameTable.{Row, row_at, HasRow, name_table}
use Rattle.rpki.specs.StrictName.{count_of, IsPrintable, IsPrintableOrUtf8, IsNameOf}
use Rattle.rpki.specs.Findings.{IsFound}
use Rattle.rpki.specs.declared.repository.x509.name.rule.NameRule.{NameRule}
use Rattle.rpki.specs.declared.repository.x509.name.rule.NameRule.TheVariants.{MissingCommonName, SecondCommonName}
use Rattle.rpki.specs.declared.repository.x509.name.rule.NameRule.TheVariants.{SecondSerialNumber}
use Rattle.rpki.specs.declared.repository.x509.name.rule.NameRule.TheVariants.{SecondOrganizationName, OtherString}
use Rattle.rpki.specs.declared.repository.x509.name.rule.NameRule.TheVariants.{OtherAttribute}

-- no rule is broken by these attributes, unless by what they lack
abbrev pub AreFine : List Row → (List ℕ → Type 0) → List Attribute → Type 0
AreFine table IsString xs = (found : List Bool) × IsFound table IsString found xs

-- the attribute is the second of its row
pub record IsSecond (table : List Row) (rule : NameRule) (before : List Attribute) (a : Attribute) : Type 0 where
  pub number : ℕ
  pub has : HasRow table number a.identifier
  pub rule_is : rule ≡ (row_at table number).second
  pub seen : count_of a.identifier before ≡ 1

-- it is the first of its row, and its value is no such string
pub record HasOtherString (table : List Row) (IsString : List ℕ → Type 0) (rule : NameRule) (before : List Attribute)
    (a : Attribute) : Type 0 where
  pub number : ℕ
  pub has : HasRow table number a.identifier
  pub rule_is : rule ≡ OtherString
  pub first : count_of a.identifier before ≡ 0
  pub other : IsString a.value → ⊥

-- it has no row
pub record HasNoRow (table : List Row) (rule : NameRule) (a : Attribute) : Type 0 where
  pub rule_is : rule ≡ OtherAttribute
  pub none : (n : ℕ) → HasRow table n a.identifier → ⊥

-- this attribute breaks the rule, after attributes that break none
abbrev pub BreaksAt : List Row → (List ℕ → Type 0) → NameRule → List Attribute → Attribute → Type 0
BreaksAt table IsString rule before a =
    IsSecond table rule before a ⊎ HasOtherString table IsString rule before a ⊎ HasNoRow table rule a

-- the first attribute that breaks a rule breaks this one
pub record FirstBreaks (table : List Row) (IsString : List ℕ → Type 0) (rule : NameRule) (xs : List Attribute) : Type 0
  where
    pub before : List Attribute
    pub attribute : Attribute
    pub after : List Attribute
    pub parts : xs ≡ (before ++ attribute ∷ []) ++ after
    pub fine : AreFine table IsString before
    pub broken : BreaksAt table IsString rule before attribute

-- the attributes lack a common name, and break no rule beside that
abbrev pub LackCommonName : List Row → (List ℕ → Type 0) → List Attribute → Type 0
LackCommonName table IsString xs = AreFine table IsString xs × (count_of common_name xs ≡ 0)

-- the rule that the attributes of a name break first
abbrev pub BreaksRule : List Row → (List ℕ → Type 0) → NameRule → List Attribute → Type 0
BreaksRule table IsString rule xs =
    FirstBreaks table IsString rule xs ⊎ ((rule ≡ MissingCommonName) × LackCommonName table IsString xs)

-- a name that breaks the rule first, of those of the RPKI and of those of routers
abbrev pub BreaksRpkiRule : NameRule → List ℕ → Type 0
BreaksRpkiRule rule = IsNameOf (BreaksRule name_table IsPrintable rule)

abbrev pub BreaksRouterRule : NameRule → List ℕ → Type 0
BreaksRouterRule rule = IsNameOf (BreaksRule name_table IsPrintableOrUtf8 rule)

-- the texts of the errors
abbrev pub rpki_text : NameRule → List ℕ
rpki_text MissingCommonName = codes "missing common name"
rpki_text SecondCommonName = codes "multiple common names"
rpki_text SecondSerialNumber = codes "multiple serial numbers"
rpki_text SecondOrganizationName = codes "multiple organization names"
rpki_text OtherString = codes "invalid name"
rpki_text OtherAttribute = codes "invalid name"

abbrev pub router_text : NameRule → List ℕ
router_text MissingCommonName = codes "missing common name"
router_text SecondCommonName = codes "multiple common names"
router_text SecondSerialNumber = codes "multiple serial numbers"
router_text SecondOrganizationName = codes "multiple organization names"
router_text OtherString = codes "unpermitted string variant in common name"
router_text OtherAttribute = codes "invalid name"

-- Attestations of the providers of an autonomous system (draft-ietf-sidrops-aspa-profile, version 1).
use Rattle.std.specs.Prelude.{◌≡◌, ◌≢◌, ◌<◌, ◌^◌, ℕ, List, [], ◌∷◌}
use Rattle.rpki_der.specs.declared.tag.Class.TheVariants.{Context}
use Rattle.rpki_der.specs.Prelude.{TagName, tag_of, sequence, Format, around, then, only, each, such, this_number}
use Rattle.rpki_der.specs.Prelude.{unsigned_below}
use Rattle.rpki_contents.specs.declared.aspa.ListedProviders.{ListedProviders}

-- ---- the version, 1, under the explicit tag 0

abbrev pub version_tag : TagName
version_tag = tag_of Context 0

abbrev pub version : Format (Unit {0})
version = around version_tag (only (this_number 1))

-- ---- the providers: SEQUENCE (SIZE (1..MAX)) OF ASID, each above the one before it

abbrev pub as_number : Format ℕ
as_number = unsigned_below (2 ^ 32)

-- the first is above this number, and each other above the one before it
abbrev pub AscendFrom : ℕ → List ℕ → Type 0
AscendFrom n [] = Unit {0}
AscendFrom n (x ∷ xs) = (n < x) × AscendFrom x xs

abbrev pub Ascend : List ℕ → Type 0
Ascend [] = Unit {0}
Ascend (x ∷ xs) = AscendFrom x xs

-- the number is none of these
abbrev pub IsNoneOf : ℕ → List ℕ → Type 0
IsNoneOf n [] = Unit {0}
IsNoneOf n (x ∷ xs) = (n ≢ x) × IsNoneOf n xs

-- providers of this customer: one at least, ascending, and the customer isn't one
pub record AreProviders (customer : ℕ) (providers : List ℕ) : Type 0 where
  pub some : providers ≢ []
  pub ascend : Ascend providers
  pub others : IsNoneOf customer providers

abbrev pub each_number : Format (List ℕ)
each_number = each as_number

abbrev pub numbers : Format (List ℕ)
numbers = around sequence each_number

-- ---- ASProviderAttestation ::= SEQUENCE { version [0] INTEGER DEFAULT 0, customerASID ASID, providers }

pub record AspaParts : Type 0 where
  pub customer : ℕ
  pub providers : List ℕ

abbrev pub aspa_parts : ℕ → List ℕ → AspaParts
aspa_parts customer providers = record { customer = customer; providers = providers }

-- each is an AS number
abbrev pub AreNumbers : List ℕ → Type 0
AreNumbers [] = Unit {0}
AreNumbers (n ∷ ns) = (n < 2 ^ 32) × AreNumbers ns

-- the providers are those of the customer, and all are AS numbers
pub record IsAttestation (x : AspaParts) : Type 0 where
  pub providers : AreProviders x.customer x.providers
  pub customer : x.customer < 2 ^ 32
  pub numbers : AreNumbers x.providers

abbrev pub Fields : Type 0
Fields = Unit {0} × (ℕ × List ℕ)

abbrev pub fields_of : AspaParts → Fields
fields_of x = (tt, (x.customer, x.providers))

abbrev pub listed_of : ListedProviders → Fields
listed_of x = fields_of (aspa_parts x.customer x.providers.items)

-- the parts, in order, and nothing else
abbrev pub fields : Format Fields
fields = then version (then as_number (only numbers))

-- the fields are those of x, whose providers are its customer's
pub record IsAspa (x : AspaParts) (parts : Fields) : Type 0 where
  pub same : fields_of x ≡ parts
  pub providers : AreProviders x.customer x.providers

abbrev pub aspa : Format AspaParts
aspa = such IsAspa (around sequence fields)

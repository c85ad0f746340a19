-- What a status says of the octets of an access description, a general name and CRL distribution points.
use Rattle.std.specs.Prelude.{◌≡◌, ◌⊎◌, ℕ, if◌then◌else◌, List, [], bytes_eq, is_some, Option, Some, None}
use Rattle.rpki_cert.specs.Access.{ca_issuers, ca_repository, rpki_manifest, signed_object, rpki_notify}
use Rattle.rpki_cert.specs.AccessDescription.{Description, description, general_name, points}
use Rattle.rpki_c.specs.declared.access.AccessParts.{AccessParts}
use Rattle.rpki_c.specs.declared.access.GeneralNameParts.{GeneralNameParts}
use Rattle.rpki_c.specs.declared.span.Span.{Span}
use Rattle.rpki_c.specs.Span.{IsTakenOff}
use Rattle.rpki_c.specs.Whole.{NeverMemory, IsRefused}

-- how a method is passed, by the contents octets of its identifier (RFC 5280 4.2.2, RFC 6487 4.8.8, RFC 8182 3.2)
abbrev pub method_number : List ℕ → ℕ
method_number id =
    if bytes_eq id ca_issuers then 1
    else if bytes_eq id ca_repository then 2
    else if bytes_eq id rpki_manifest then 3
    else if bytes_eq id signed_object then 4
    else if bytes_eq id rpki_notify then 5
    else 0

-- the text of a name that is a URI; a name of another form has none
abbrev pub IsTextOf : Option (List ℕ) → Span → Type 0
IsTextOf None p = p.octets.now ≡ []
IsTextOf (Some text) p = p.octets.now ≡ text

-- what is written of an access description
pub record HasAccess (x : Description) (p : AccessParts) : Type 0 where
  pub id : p.id.octets.now ≡ x.0
  pub uri : IsTextOf x.1 p.uri
  pub is_uri : p.is_uri ≡ is_some x.1
  pub method : p.method ≡ method_number x.0

-- an access description is taken off the span
abbrev pub IsAccessTaken : ℕ → Span → Span → AccessParts → AccessParts → Type 0
IsAccessTaken = IsTakenOff description HasAccess

-- what is written of a general name
pub record HasName (x : Option (List ℕ)) (p : GeneralNameParts) : Type 0 where
  pub uri : IsTextOf x p.uri
  pub is_uri : p.is_uri ≡ is_some x

-- a general name is taken off the span
abbrev pub IsNameTaken : ℕ → Span → Span → GeneralNameParts → GeneralNameParts → Type 0
IsNameTaken = IsTakenOff general_name HasName

-- Status 0: the octets are one distribution point, of these general names. Else the number of the error, and nothing is
-- written.
abbrev pub IsPointRead : List ℕ → ℕ → Span → Span → Type 0
IsPointRead s status old new =
    ((status ≡ 0) × points.spells new.octets.now s)
    ⊎ (IsRefused points.spells (NeverMemory points.spells points.fault) s status × (new ≡ old))

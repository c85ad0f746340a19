-- Files of local exceptions (RFC 8416 3): an object of JSON, of which each member is said.
use Rattle.std.specs.Prelude.{◌≡◌, ◌≤◌, ◌<◌, ◌+◌, ◌^◌, ℕ, suc, List, [], ◌∷◌, codes, length, Option, Some, None}
use Rattle.std.specs.Prelude.{◌⊎◌, ⊤, if◌then◌else◌, IfSome, IsSome, IsUtf8, Ok, option_and_then}
use Rattle.std.specs.Option.{unwrap_or, is_some}
use Rattle.base64.specs.Engines.{url_safe_no_pad}
use Rattle.base64.specs.GeneralPurpose.{decode_of}
use Rattle.json.specs.Json.{Json, document}
use Rattle.json.specs.Strict.{HasUniqueKeys}
use Rattle.serde_json.specs.Data.{Data, Members, no_members, member}
use Rattle.serde_json.specs.Find.{as_array, as_number, as_object, as_str, as_u64, get}
use Rattle.serde_json.specs.Read.{read as read_text}
use Rattle.serde_json.specs.View.{items_of}
use Rattle.rpki.specs.PublicKey.{KeyParts, SpellsKey}
use Rattle.rpki_resources.specs.declared.ip_text.Prefix.{Prefix}
use Rattle.rpki_resources.specs.IpRead.{IsPrefixText, address_width}
use Rattle.rpki_payloads.specs.declared.exceptions.Exceptions.{Exceptions}
use Rattle.rpki_payloads.specs.declared.exceptions_text.ExceptionsError.{ExceptionsError}
use Rattle.rpki_payloads.specs.declared.exceptions_text.ExceptionsError.TheVariants as E
use Rattle.rpki_payloads.specs.declared.exceptions_text.Member.{Member}
use Rattle.rpki_payloads.specs.declared.exceptions_text.Member.TheVariants.{Version, Filters, PrefixFilters, KeyFilters}
use Rattle.rpki_payloads.specs.declared.exceptions_text.Member.TheVariants.{Assertions, PrefixAssertions, KeyAssertions}
use Rattle.rpki_payloads.specs.declared.filters.PrefixFilter.{PrefixFilter}
use Rattle.rpki_payloads.specs.declared.key_filters.KeyFilter.{KeyFilter}
use Rattle.rpki_payloads.specs.declared.router_key.RouterKey.{RouterKey}
use Rattle.rpki_payloads.specs.declared.vrp.Vrp.{Vrp}
use Rattle.rpki_payloads.specs.Exceptions.{AreEach, IsFirstOther}
use Rattle.rpki_payloads.specs.Vrp.{prefix_of}

-- ---- members

abbrev pub member_name : Member → List ℕ
member_name Version = codes "slurmVersion"
member_name Filters = codes "validationOutputFilters"
member_name PrefixFilters = codes "prefixFilters"
member_name KeyFilters = codes "bgpsecFilters"
member_name Assertions = codes "locallyAddedAssertions"
member_name PrefixAssertions = codes "prefixAssertions"
member_name KeyAssertions = codes "bgpsecAssertions"

-- how many members there are
abbrev pub size : Members → ℕ
size no_members = 0
size (member name d ms) = suc (size ms)

-- how many of these names are members
abbrev pub count_in : List (List ℕ) → Data → ℕ
count_in [] d = 0
count_in (name ∷ names) d = (if is_some (get name d) then 1 else 0) + count_in names d

-- an object, all of whose members have one of these names
abbrev pub HasSize : ℕ → Data → Type 0
HasSize count d = (ms : Members) × (as_object d ≡ Some ms) × (size ms ≡ count)

abbrev pub HasOnly : List (List ℕ) → Data → Type 0
HasOnly names d = HasSize (count_in names d) d

-- the member of this name is R of x
abbrev pub IsMember : {X : Type 0} → List ℕ → (Data → X → Type 0) → Data → X → Type 0
IsMember name R d x = (m : Data) × (get name d ≡ Some m) × R m x

-- the same, where there is one
abbrev pub MayBeMember : {X : Type 0} → List ℕ → (Data → X → Type 0) → Data → Option X → Type 0
MayBeMember name R d None = get name d ≡ None
MayBeMember name R d (Some x) = IsMember name R d x

-- the member of this name is an array, whose elements are R of these, one by one
abbrev pub AreListed : {X : Type 0} → List ℕ → (Data → X → Type 0) → Data → List X → Type 0
AreListed name R d xs =
    (ds : List Data) × (option_and_then as_array (get name d) ≡ Some (items_of ds)) × AreEach R ds xs

-- a comment, if there is one, is a text
abbrev pub HasComment : Data → Type 0
HasComment d = IfSome (get (codes "comment") d) (λ m. IsSome (as_str m))

-- ---- values

-- a number below 2^32
abbrev pub IsNumberIn : Data → ℕ → Type 0
IsNumberIn d n = (option_and_then as_u64 (as_number d) ≡ Some n) × (n < 2 ^ 32)

-- the text of a prefix (RFC 8416 3.3.1, 3.4.1)
abbrev pub IsPrefixIn : Data → Prefix → Type 0
IsPrefixIn d p = (text : List ℕ) × (as_str d ≡ Some text) × IsPrefixText text p

-- octets in base 64 (RFC 4648 5, without padding)
abbrev pub AreOctetsIn : Data → List ℕ → Type 0
AreOctetsIn d octets = (text : List ℕ) × (as_str d ≡ Some text) × (decode_of url_safe_no_pad text ≡ Ok octets)

-- octets that are a public key (RFC 5280 4.1)
abbrev pub IsKeyInfo : List ℕ → Type 0
IsKeyInfo octets = (k : KeyParts) × SpellsKey k octets

-- those of the SubjectPublicKeyInfo of a certificate (RFC 8416 3.4.2)
abbrev pub IsInfoIn : Data → List ℕ → Type 0
IsInfoIn d info = AreOctetsIn d info × IsKeyInfo info

-- those of the identifier of a key, of which there are twenty (RFC 6487 4.8.2)
abbrev pub IsIdentifierIn : Data → List ℕ → Type 0
IsIdentifierIn d identifier = AreOctetsIn d identifier × (length identifier ≡ 20)

-- ---- filters (3.3)

pub record IsPrefixFilter (d : Data) (f : PrefixFilter) : Type 0 where
  pub only : HasOnly (codes "prefix" ∷ codes "asn" ∷ codes "comment" ∷ []) d
  pub prefix : MayBeMember (codes "prefix") IsPrefixIn d f.prefix
  pub asn : MayBeMember (codes "asn") IsNumberIn d f.asn
  pub some : f.prefix ≡ None → f.asn ≡ None → ⊥
  pub comment : HasComment d

pub record IsKeyFilter (d : Data) (f : KeyFilter) : Type 0 where
  pub only : HasOnly (codes "asn" ∷ codes "SKI" ∷ codes "comment" ∷ []) d
  pub asn : MayBeMember (codes "asn") IsNumberIn d f.asn
  pub identifier : MayBeMember (codes "SKI") IsIdentifierIn d f.identifier
  pub some : f.asn ≡ None → f.identifier ≡ None → ⊥
  pub comment : HasComment d

-- ---- assertions (3.4)

-- the payload of a prefix: its maximum length is that of the prefix where it is left out, none below it, and none
-- above the length of addresses
pub record IsVrpWith (p : Prefix) (longest : Option ℕ) (asn : ℕ) (v : Vrp) : Type 0 where
  pub prefix : prefix_of v ≡ p
  pub most : v.max_length ≡ unwrap_or longest p.len
  pub order : p.len ≤ v.max_length
  pub fits : v.max_length ≤ address_width p.addr
  pub asn_is : v.as_id ≡ asn

pub record IsPrefixAssertion (d : Data) (v : Vrp) : Type 0 where
  pub only : HasOnly (codes "asn" ∷ codes "prefix" ∷ codes "maxPrefixLength" ∷ codes "comment" ∷ []) d
  pub asn : ℕ
  pub asn_there : IsMember (codes "asn") IsNumberIn d asn
  pub prefix : Prefix
  pub prefix_there : IsMember (codes "prefix") IsPrefixIn d prefix
  pub longest : Option ℕ
  pub longest_there : MayBeMember (codes "maxPrefixLength") IsNumberIn d longest
  pub payload : IsVrpWith prefix longest asn v
  pub comment : HasComment d

pub record IsKeyAssertion (d : Data) (k : RouterKey) : Type 0 where
  pub only : HasOnly (codes "asn" ∷ codes "SKI" ∷ codes "routerPublicKey" ∷ codes "comment" ∷ []) d
  pub asn : IsMember (codes "asn") IsNumberIn d k.first
  pub one : k.last ≡ k.first
  pub identifier : IsMember (codes "SKI") IsIdentifierIn d k.identifier
  pub info : IsMember (codes "routerPublicKey") IsInfoIn d k.info
  pub comment : HasComment d

-- ---- the whole (3.2)

abbrev pub HasArraysOfFilters : Data → Type 0
HasArraysOfFilters = HasOnly (codes "prefixFilters" ∷ codes "bgpsecFilters" ∷ [])

pub record AreFilters (d : Data) (prefixes : List PrefixFilter) (keys : List KeyFilter) : Type 0 where
  pub only : HasArraysOfFilters d
  pub of_prefixes : AreListed (codes "prefixFilters") IsPrefixFilter d prefixes
  pub of_keys : AreListed (codes "bgpsecFilters") IsKeyFilter d keys

abbrev pub HasArraysOfAssertions : Data → Type 0
HasArraysOfAssertions = HasOnly (codes "prefixAssertions" ∷ codes "bgpsecAssertions" ∷ [])

pub record AreAssertions (d : Data) (vrps : List Vrp) (keys : List RouterKey) : Type 0 where
  pub only : HasArraysOfAssertions d
  pub of_prefixes : AreListed (codes "prefixAssertions") IsPrefixAssertion d vrps
  pub of_keys : AreListed (codes "bgpsecAssertions") IsKeyAssertion d keys

abbrev pub HasMembers : Data → Type 0
HasMembers = HasOnly (codes "slurmVersion" ∷ codes "validationOutputFilters" ∷ codes "locallyAddedAssertions" ∷ [])

abbrev pub IsVersionOne : Data → Type 0
IsVersionOne d = option_and_then as_u64 (option_and_then as_number (get (codes "slurmVersion") d)) ≡ Some 1

pub record AreExceptionsIn (d : Data) (e : Exceptions) : Type 0 where
  pub only : HasMembers d
  pub version : IsVersionOne d
  pub filters : Data
  pub filters_there : get (codes "validationOutputFilters") d ≡ Some filters
  pub filters_are : AreFilters filters e.prefix_filters.items e.key_filters.items
  pub assertions : Data
  pub assertions_there : get (codes "locallyAddedAssertions") d ≡ Some assertions
  pub assertions_are : AreAssertions assertions e.vrps.items e.keys.items

-- no object of the text, at any depth, has a name twice
abbrev pub HasNamesOnce : List ℕ → Type 0
HasNamesOnce octets = (j : Json) × (document octets ≡ Some j) × HasUniqueKeys j

-- the octets are the text of a value, in UTF-8, in which none has
abbrev pub IsTextOf : List ℕ → Data → Type 0
IsTextOf octets d = IsUtf8 octets × (read_text octets ≡ Some d) × HasNamesOnce octets

-- the octets are the text of an object that says these exceptions
abbrev pub AreExceptions : List ℕ → Exceptions → Type 0
AreExceptions octets e = (d : Data) × IsTextOf octets d × AreExceptionsIn d e

-- ---- what is wrong with other octets; where memory fails, nothing is said of them

-- of the elements of the array of this name: the first that is R of nothing
abbrev pub IsElementFault : {A X : Type 0} → (A → X → Type 0) → Member → List A → ExceptionsError → Type 0
IsElementFault R m all (E.Element n i) = (n ≡ m) × IsFirstOther R all i
IsElementFault R m all E.OutOfMemory = ⊤
IsElementFault R m all e = ⊥

-- of the array: there is none, or one of its elements is R of nothing
abbrev pub IsArrayFault : {X : Type 0} → (Data → X → Type 0) → Member → Data → ExceptionsError → Type 0
IsArrayFault R m d (E.Missing n) = (n ≡ m) × (option_and_then as_array (get (member_name m) d) ≡ None)
IsArrayFault R m d (E.Element n i) =
    (n ≡ m) × (ds : List Data) × (option_and_then as_array (get (member_name m) d) ≡ Some (items_of ds))
    × IsFirstOther R ds i
IsArrayFault R m d E.OutOfMemory = ⊤
IsArrayFault R m d e = ⊥

-- of two arrays, one after the other
abbrev pub IsPairFault : {X Y : Type 0} → (Data → Type 0) → Member → (Data → X → Type 0) → Member → (Data → Y → Type 0)
    → Member → Data → ExceptionsError → Type 0
IsPairFault {X} Has whole R one S other d e =
    ((Has d → ⊥) × (e ≡ E.Missing whole))
    ⊎ (Has d
    × (IsArrayFault R one d e ⊎ ((xs : List X) × AreListed (member_name one) R d xs × IsArrayFault S other d e)))

abbrev pub IsFiltersFault : Data → ExceptionsError → Type 0
IsFiltersFault = IsPairFault HasArraysOfFilters Filters IsPrefixFilter PrefixFilters IsKeyFilter KeyFilters

abbrev pub IsAssertionsFault : Data → ExceptionsError → Type 0
IsAssertionsFault =
    IsPairFault HasArraysOfAssertions Assertions IsPrefixAssertion PrefixAssertions IsKeyAssertion KeyAssertions

-- of filters and assertions, in this order
abbrev pub IsPartsFault : Data → Data → ExceptionsError → Type 0
IsPartsFault filters assertions e =
    IsFiltersFault filters e
    ⊎ ((prefixes : List PrefixFilter) × (keys : List KeyFilter) × AreFilters filters prefixes keys
    × IsAssertionsFault assertions e)

-- whether both are there, once the version is 1
abbrev pub IsObjectsFault : Data → ExceptionsError → Type 0
IsObjectsFault d e =
    ((get (member_name Filters) d ≡ None) × (e ≡ E.Missing Filters))
    ⊎ ((filters : Data) × (get (member_name Filters) d ≡ Some filters)
    × (((get (member_name Assertions) d ≡ None) × (e ≡ E.Missing Assertions))
    ⊎ ((assertions : Data) × (get (member_name Assertions) d ≡ Some assertions) × IsPartsFault filters assertions e)))

abbrev pub IsExceptionsFault : Data → ExceptionsError → Type 0
IsExceptionsFault d e =
    ((HasMembers d → ⊥) × (e ≡ E.Members))
    ⊎ (HasMembers d × (((IsVersionOne d → ⊥) × (e ≡ E.Missing Version)) ⊎ (IsVersionOne d × IsObjectsFault d e)))

-- the octets are no JSON, by the reading of values or by that of names; or an object has a name twice. Nothing is said
-- of the line that is told
abbrev pub IsJsonFault : List ℕ → ExceptionsError → Type 0
IsJsonFault octets (E.Json n) = IsUtf8 octets → (read_text octets ≡ None) ⊎ (document octets ≡ None)
IsJsonFault octets E.Twice =
    IsUtf8 octets × (j : Json) × (document octets ≡ Some j) × (HasUniqueKeys j → ⊥)
IsJsonFault octets E.OutOfMemory = ⊤
IsJsonFault octets e = ⊥

abbrev pub IsTextFault : List ℕ → ExceptionsError → Type 0
IsTextFault octets e = IsJsonFault octets e ⊎ ((d : Data) × IsTextOf octets d × IsExceptionsFault d e)

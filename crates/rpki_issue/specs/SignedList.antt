-- Revocation lists that are to be signed, and that are signed (RFC 5280 5.1, RFC 6487 5).
use Rattle.std.specs.Prelude.{◌≡◌, ◌≤ℤ◌, ℕ, true, List, ◌++◌, nat_eq}
use Rattle.std.specs.List.{IsDistinct}
use Rattle.jiff.specs.Words.{civil_nanos}
use Rattle.rpki_time.specs.Time.{IsTimeYear}
use Rattle.rpki_time.specs.TimeValue.{time_octets}
use Rattle.rpki.specs.Oids.{sha256_with_rsa_encryption}
use Rattle.rpki.specs.AlgorithmOctets.{algorithm_octets}
use Rattle.rpki.specs.Prelude.{SpellsNameOctets}
use Rattle.rpki.specs.Provider.{Checkers}
use Rattle.rpki.specs.PublicKey.{KeyParts}
use Rattle.rpki_crl.specs.Crl.{Entry, ListParts, extensions, crl, crl_parts, listed}
use Rattle.rpki_crl.specs.EncodedCrl.{version_2, AreEntries, extensions_octets, list_octets, normal_list, IsShortList}
use Rattle.rpki_crl.specs.EncodedCrl.{IsListReadBack}
use Rattle.rpki_issue.specs.declared.error.IssueError.{IssueError}
use Rattle.rpki_issue.specs.declared.error.IssueError.TheVariants.{Uri, Period, Doubled, Resources, TooLong}
use Rattle.rpki_issue.specs.declared.error.IssueError.TheVariants.{Rule, ContentType, Certificate, BadSignature}
use Rattle.rpki_issue.specs.declared.error.IssueError.TheVariants.{OutOfMemory}
use Rattle.rpki_issue.specs.Signing.{signed_parts, AreSigned}
use Rattle.rpki_issue.specs.Written.{IsKeyedRefusal}

-- what is to be signed, as octets and as what they say
pub record ListToSign : Type 0 where
  pub octets : List ℕ
  pub list : ListParts

-- the next one is not issued before it
abbrev pub IsListOrdered : ListParts → Type 0
IsListOrdered x = civil_nanos x.this_update ≤ℤ civil_nanos x.next_update

-- no two numbers are equal
abbrev pub Differ : List ℕ → Type 0
Differ = IsDistinct nat_eq

-- no two entries have the same serial number (RFC 5280 5.1.2.6)
abbrev pub AreOnce : List Entry → Type 0
AreOnce = IsDistinct (λ x y. nat_eq x.0 y.0)

-- of this list: the octets are those that are written of it, and are read as its normal form
pub record IsListToSign (x : ListParts) (made : ListToSign) : Type 0 where
  pub octets : made.octets ≡ list_octets x
  pub list : made.list ≡ x
  pub ordered : IsListOrdered x
  pub once : AreOnce (listed x.revoked)
  pub read_back : IsListReadBack x

-- ---- its parts

-- the version, the algorithm and the issuer; the two times
abbrev pub head_octets : ListParts → List ℕ
head_octets x = version_2 ++ (algorithm_octets sha256_with_rsa_encryption true ++ x.issuer)

abbrev pub times_octets : ListParts → List ℕ
times_octets x = time_octets x.this_update ++ time_octets x.next_update

-- each part is read as what it is
abbrev pub IsHeadKnown : ListParts → Type 0
IsHeadKnown x = SpellsNameOctets x.issuer x.issuer

pub record AreTimesKnown (x : ListParts) : Type 0 where
  pub this_update : IsTimeYear x.this_update.date.year
  pub next_update : IsTimeYear x.next_update.date.year

pub record AreListKnown (x : ListParts) : Type 0 where
  pub head : IsHeadKnown x
  pub times : AreTimesKnown x
  pub revoked : AreEntries x.revoked
  pub extensions : extensions.spells x.extensions (extensions_octets x.extensions)

-- no length announces it
abbrev pub IsListRefused : ListParts → IssueError → Type 0
IsListRefused x = IsKeyedRefusal (IsShortList x)

-- the same, or the next one is issued before it, or a serial number is there twice
abbrev pub IsListPlanRefused : ListParts → IssueError → Type 0
IsListPlanRefused x Uri = ⊥
IsListPlanRefused x Period = IsListOrdered x → ⊥
IsListPlanRefused x Doubled = AreOnce (listed x.revoked) → ⊥
IsListPlanRefused x Resources = ⊥
IsListPlanRefused x TooLong = IsShortList x → ⊥
IsListPlanRefused x (Rule r) = ⊥
IsListPlanRefused x ContentType = ⊥
IsListPlanRefused x Certificate = ⊥
IsListPlanRefused x BadSignature = ⊥
IsListPlanRefused x OutOfMemory = Unit {0}

-- the list of this signature, as it is written, is read as the normal form of the list that was to be signed
pub record IsIssuedList (by : Checkers) (key : KeyParts) (made : ListToSign) (value whole : List ℕ) : Type 0 where
  pub signed : AreSigned by key made.octets value whole
  pub read_back : crl.spells (crl_parts (signed_parts made.octets value) (normal_list made.list)) whole

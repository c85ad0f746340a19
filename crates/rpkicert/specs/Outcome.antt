-- What is found of a file.
use Rattle.std.specs.Prelude.{◌≡◌, ◌≢◌, ◌⊎◌, ◌<◌, ◌≤◌, ◌&&◌, ◌||◌, ◌==◌, ℕ, nat_eq, not, Bool, true, false}
use Rattle.std.specs.Prelude.{if◌then◌else◌, List, [], ◌∷◌, length, Option}
use Rattle.std.specs.List.{starts_with}
use Rattle.std.specs.Prelude.{Some, None, is_some, Result, Ok, Err}
use Rattle.rpki_der.specs.declared.error.DecodeError.{DecodeError}
use Rattle.rpki_der.specs.declared.error.DecodeError.TheVariants as der
use Rattle.rpki_fields.specs.ObjectType.{kind_of}
use Rattle.rpki_fields.specs.Object.{IsOf, IsNone, objection_to}
use Rattle.rpki_fields.specs.Part.{IsMalformedPart}
use Rattle.rpki_fields.specs.declared.object_type.ObjectType.{ObjectType}
use Rattle.rpki_fields.specs.declared.object.Object.{Object}
use Rattle.rpki_fields.specs.declared.part.Part.{Part}
use Rattle.rpkicert.specs.declared.fault.Cause.{Cause}
use Rattle.rpkicert.specs.declared.fault.Fault.{Fault}
use Rattle.rpkicert.specs.declared.fault.Fault.TheVariants.{Unreadable, TooLarge, OutOfMemory, Malformed, Refused}
use Rattle.rpkicert.specs.declared.fault.Fault.TheVariants.{OtherText}
use Rattle.rpkicert.specs.declared.fault.Fault.TheVariants.{Empty, Neither, NoLocator}
use Rattle.rpkicert.specs.declared.fault.Fault.TheVariants.{Violated, Unverified, NoCertificate, NoList, OtherAlgorithm}
use Rattle.rpkicert.specs.Requirements.{TermParts, IsVerified, IsUnverified}
use Rattle.rpkicert.specs.Profiled.{IsProfiled, IsUnprofiled}
use Rattle.rpkicert.specs.Pem.{from_begin, is_pem, kind_of_text, octets_of}
use Rattle.rpkicert.specs.Fault.{most_octets}

-- the object is checked against something, and is a certificate of an algorithm that the RPKI doesn't use
abbrev pub is_outside : TermParts → Object → Bool
is_outside terms x =
    (is_some terms.inspection || is_some terms.issuer || is_some terms.moment) && is_some (objection_to x)

-- an object, its octets, and why it doesn't hold, where it doesn't
pub record OutcomeParts : Type 0 where
  pub octets : List ℕ
  pub object : Object
  pub fault : Option Fault

abbrev pub found_parts : List ℕ → Object → Option Fault → OutcomeParts
found_parts octets object fault = record { octets = octets; object = object; fault = fault }

-- what is found of a file, or why nothing is
abbrev pub Finding : Type 0
Finding = Result OutcomeParts Fault

-- the octets are this object, which is of the kind that they tell, and no other
pub record IsObject (octets : List ℕ) (x : Object) : Type 0 where
  pub is : IsOf (kind_of octets) octets x

-- the octets are no object of the kind that they tell: the error, and the place of the malformed part
pub record IsNoObject (octets : List ℕ) (kind : ObjectType) (place : Option Part) (e : DecodeError) : Type 0 where
  pub told : kind ≡ kind_of octets
  pub memory : e ≢ der.OutOfMemory
  pub none : IsNone (kind_of octets) octets e
  pub placed : IsMalformedPart (kind_of octets) octets place

-- Why octets are no object of the kind that they tell, and which part of them is wrong; or allocation failed.
abbrev pub IsRefusal : List ℕ → Fault → Type 0
IsRefusal octets (Refused kind place e) = IsNoObject octets kind place e
IsRefusal octets OutOfMemory = Unit {0}
IsRefusal octets (Unreadable cause) = ⊥
IsRefusal octets TooLarge = ⊥
IsRefusal octets Empty = ⊥
IsRefusal octets Neither = ⊥
IsRefusal octets (NoLocator e) = ⊥
IsRefusal octets Malformed = ⊥
IsRefusal octets (OtherText kind) = ⊥
IsRefusal octets (Violated v) = ⊥
IsRefusal octets (Unverified clause e) = ⊥
IsRefusal octets NoCertificate = ⊥
IsRefusal octets NoList = ⊥
IsRefusal octets OtherAlgorithm = ⊥

-- the object holds
pub record IsHeld (terms : TermParts) (x : Object) : Type 0 where
  pub profiled : IsProfiled terms.inspection x
  pub verified : IsVerified terms x
  pub inside : is_outside terms x ≡ false

-- Why the object doesn't hold: first the profiles of the certificate in it, then the clauses of Requirements.
abbrev pub IsWrong : TermParts → Object → Fault → Type 0
IsWrong terms x (Violated v) = IsUnprofiled terms.inspection x (Violated v)
IsWrong terms x (Unverified clause e) = IsProfiled terms.inspection x × IsUnverified terms x clause e
IsWrong terms x NoCertificate = IsUnprofiled terms.inspection x NoCertificate
IsWrong terms x OtherAlgorithm = is_outside terms x ≡ true
IsWrong terms x (Refused kind place e) = ⊥
IsWrong terms x OutOfMemory = ⊥
IsWrong terms x NoList = ⊥
IsWrong terms x (Unreadable cause) = ⊥
IsWrong terms x TooLarge = ⊥
IsWrong terms x Empty = ⊥
IsWrong terms x Neither = ⊥
IsWrong terms x (NoLocator e) = ⊥
IsWrong terms x Malformed = ⊥
IsWrong terms x (OtherText kind) = ⊥

-- the object holds, or this is why it doesn't
abbrev pub IsJudged : TermParts → Object → Option Fault → Type 0
IsJudged terms x None = IsHeld terms x
IsJudged terms x (Some fault) = IsWrong terms x fault

-- What is found of octets: the object that they are, and why it doesn't hold, where it doesn't; or why they are none;
-- or allocation failed.
abbrev pub HoldsTo : TermParts → List ℕ → Finding → Type 0
HoldsTo terms octets (Ok found) =
    (found.octets ≡ octets) × IsObject octets found.object × IsJudged terms found.object found.fault
HoldsTo terms octets (Err fault) = IsRefusal octets fault

-- it has octets, and neither begins with the identifier octet of a SEQUENCE (X.690 8.9), as each object in DER does,
-- nor is a text of RFC 7468
abbrev pub is_other : List ℕ → Bool
is_other input = not (length input == 0 || starts_with nat_eq input (48 ∷ []) || is_pem input)

-- what is wrong with an input by its form alone
abbrev pub form_fault : List ℕ → Option Fault
form_fault input = if length input == 0 then Some Empty else if is_other input then Some Neither else None

-- why a text stands for no octets: it has a certificate or a list, and not exactly one, or something else
abbrev pub malformed : List ℕ → Fault
malformed input = if is_some (from_begin input) then Malformed else OtherText (kind_of_text input)

-- The same of an input in one of these forms, which may be a text that stands for octets, or for none.
abbrev pub FindsFormed : TermParts → List ℕ → Finding → Type 0
FindsFormed terms input finding =
    ((octets : List ℕ) × (octets_of input ≡ Some octets) × HoldsTo terms octets finding)
    ⊎ ((octets_of input ≡ None) × (finding ≡ Err (malformed input))) ⊎ (finding ≡ Err OutOfMemory)

-- The same of an input whose form is wrong, or isn't.
abbrev pub FindsBy : Option Fault → TermParts → List ℕ → Finding → Type 0
FindsBy None terms input finding = FindsFormed terms input finding
FindsBy (Some fault) terms input finding = finding ≡ Err fault

abbrev pub FindsIn : TermParts → List ℕ → Finding → Type 0
FindsIn terms input finding = FindsBy (form_fault input) terms input finding

-- The same of a file, which may not be there, or have too many octets.
abbrev pub Finds : TermParts → Option (List ℕ) → Finding → Type 0
Finds terms None finding = ((cause : Cause) × (finding ≡ Err (Unreadable cause))) ⊎ (finding ≡ Err OutOfMemory)
Finds terms (Some input) finding =
    ((length input ≤ most_octets) × FindsIn terms input finding)
    ⊎ ((most_octets < length input) × (finding ≡ Err TooLarge)) ⊎ (finding ≡ Err OutOfMemory)

-- where this object is found, and holds, nothing else is found, unless allocation fails
abbrev pub IsFoundAlone : TermParts → Option (List ℕ) → OutcomeParts → Type 0
IsFoundAlone terms source found =
    found.fault ≡ None → Finds terms source (Ok found) → (f : Finding) → Finds terms source f
    → (f ≡ Ok found) ⊎ (f ≡ Err OutOfMemory)

-- What reading a file gives: all of its octets, which are few enough; or why not.
abbrev pub IsRead : Option (List ℕ) → Result (List ℕ) Fault → Type 0
IsRead (Some octets) (Ok read) = (read ≡ octets) × (length octets ≤ most_octets)
IsRead (Some octets) (Err (Unreadable cause)) = ⊥
IsRead (Some octets) (Err TooLarge) = most_octets < length octets
IsRead (Some octets) (Err OutOfMemory) = Unit {0}
IsRead (Some octets) (Err Empty) = ⊥
IsRead (Some octets) (Err Neither) = ⊥
IsRead (Some octets) (Err (NoLocator e)) = ⊥
IsRead (Some octets) (Err Malformed) = ⊥
IsRead (Some octets) (Err (OtherText kind)) = ⊥
IsRead (Some octets) (Err (Refused kind place e)) = ⊥
IsRead (Some octets) (Err (Violated v)) = ⊥
IsRead (Some octets) (Err (Unverified clause e)) = ⊥
IsRead (Some octets) (Err NoCertificate) = ⊥
IsRead (Some octets) (Err NoList) = ⊥
IsRead (Some octets) (Err OtherAlgorithm) = ⊥
IsRead None (Ok read) = ⊥
IsRead None (Err (Unreadable cause)) = Unit {0}
IsRead None (Err TooLarge) = ⊥
IsRead None (Err OutOfMemory) = Unit {0}
IsRead None (Err Empty) = ⊥
IsRead None (Err Neither) = ⊥
IsRead None (Err (NoLocator e)) = ⊥
IsRead None (Err Malformed) = ⊥
IsRead None (Err (OtherText kind)) = ⊥
IsRead None (Err (Refused kind place e)) = ⊥
IsRead None (Err (Violated v)) = ⊥
IsRead None (Err (Unverified clause e)) = ⊥
IsRead None (Err NoCertificate) = ⊥
IsRead None (Err NoList) = ⊥
IsRead None (Err OtherAlgorithm) = ⊥

-- What reading to the end gives where these octets remain; a reader may fail.
abbrev pub IsReadFrom : List ℕ → Result (List ℕ) Fault → Type 0
IsReadFrom octets (Ok read) = (read ≡ octets) × (length octets ≤ most_octets)
IsReadFrom octets (Err (Unreadable cause)) = Unit {0}
IsReadFrom octets (Err TooLarge) = most_octets < length octets
IsReadFrom octets (Err OutOfMemory) = Unit {0}
IsReadFrom octets (Err Empty) = ⊥
IsReadFrom octets (Err Neither) = ⊥
IsReadFrom octets (Err (NoLocator e)) = ⊥
IsReadFrom octets (Err Malformed) = ⊥
IsReadFrom octets (Err (OtherText kind)) = ⊥
IsReadFrom octets (Err (Refused kind place e)) = ⊥
IsReadFrom octets (Err (Violated v)) = ⊥
IsReadFrom octets (Err (Unverified clause e)) = ⊥
IsReadFrom octets (Err NoCertificate) = ⊥
IsReadFrom octets (Err NoList) = ⊥
IsReadFrom octets (Err OtherAlgorithm) = ⊥

-- What is shown of a file, and of a run.
use Rattle.std.specs.Prelude.{◌≡◌, ◌⊎◌, ℕ, suc, nat_lt, nat_eq, ◌||◌, max, if◌then◌else◌, List, [], ◌∷◌, ◌++◌, codes}
use Rattle.std.specs.Prelude.{length, map, decimal, Option, Some, None, Result, Ok, Err, Bool, true, false, is_some}
use Rattle.std.specs.List.{flat_map}
use Rattle.rpki_cli.specs.World.{World}
use Rattle.rpki_fields.specs.declared.rendering.Form.{Form}
use Rattle.rpki_fields.specs.declared.rendering.Form.TheVariants.{Text, Json}
use Rattle.rpkicert.specs.declared.fault.Fault.TheVariants.{OutOfMemory, OtherAlgorithm, Violated}
use Rattle.rpki_fields.specs.ValueText.{hex_pair}
use Rattle.base64.specs.Engines.{standard}
use Rattle.base64.specs.GeneralPurpose.{encode_of}
use Rattle.sha2.specs.Sha256.{sha256}
use Rattle.rpki_fields.specs.Field.{FieldParts, field_parts}
use Rattle.rpki_fields.specs.Rendering.{rendering}
use Rattle.rpki_fields.specs.Object.{objection_to}
use Rattle.rpki_fields.specs.ObjectText.{IsSheet}
use Rattle.rpki_fields.specs.Sheet.{SheetParts, listing_parts, plain_sheet, sheet_behind, sheet_with}
use Rattle.rpki_fields.specs.declared.object.Object.{Object}
use Rattle.rpkicert.specs.Pem.{bundle_in}
use Rattle.rpkicert.specs.Fault.{most_octets, fault_text, status_of}
use Rattle.rpkicert.specs.Locator.{ReadsLocator}
use Rattle.rpkicert.specs.Outcome.{is_other, Finding, FindsIn, Finds}
use Rattle.rpkicert.specs.declared.fault.Fault.{Fault}
use Rattle.rpkicert.specs.declared.signature.Signature.{Signature}
use Rattle.rpkicert.specs.declared.signature.Signature.TheVariants.{Unchecked}
use Rattle.rpkicert.specs.declared.violation.Violation.{Violation}
use Rattle.rpkicert.specs.Violation.{violation_text}
use Rattle.rpkicert.specs.Broken.{AreViolations, telling}
use Rattle.rpkicert.specs.Signature.{signature_text, signature_of, signature_in, signature_found, well_text}
use Rattle.rpkicert.specs.Requirements.{TermParts}
use Rattle.rpkicert.specs.Values.{ToldParts, AreTold, told_text, values_fields, values_found, values_of}
use Rattle.rpkicert.specs.Words.{IsCut, Writes, memory_text}

-- ---- a file

-- an octet of a file's name: control characters and the reverse solidus as a reverse solidus and two hexadecimal
-- digits, so that the name stays on its line
abbrev pub name_octet : ℕ → List ℕ
name_octet octet =
    if nat_lt octet 32 || nat_eq octet 127 || nat_eq octet 92 then 92 ∷ hex_pair octet else octet ∷ []

abbrev pub visible : List ℕ → List ℕ
visible name = flat_map name_octet name

-- a file's name and what is said of it
abbrev pub line : List ℕ → List ℕ → List ℕ
line name text = visible name ++ codes ": " ++ text ++ 10 ∷ []

-- the name of an object's file: on a line as above, in JSON as it is
abbrev pub file_text : Form → List ℕ → List ℕ
file_text Text name = visible name
file_text Json name = name

-- a sheet with a field in front that says what was checked of the signatures
abbrev pub marked : Signature → SheetParts → SheetParts
marked signature s = sheet_behind (field_parts (codes "Signature") (signature_text signature)) s

-- the digest of a file by SHA-256, in base 64, as manifests have it (RFC 9286 4.2.1, RFC 4648 4)
abbrev pub hash_text : (octets : List ℕ) → List ℕ
hash_text octets = encode_of standard (sha256 octets)

-- a sheet with a field in front that has the digest of the file
abbrev pub hashed : (octets : List ℕ) → SheetParts → SheetParts
hashed octets s = sheet_behind (field_parts (codes "Hash ID") (hash_text octets)) s

-- a sheet as it is shown: lines, and an empty one; or an object of JSON on a line
abbrev pub record_text : Form → SheetParts → List ℕ
record_text Text s = rendering Text s ++ 10 ∷ []
record_text Json s = rendering Json s

-- the text of the object that these octets are: its file and the digest, and then its sheet, in one form or the other
abbrev pub IsTextOf : Form → Signature → List ℕ → List ℕ → Object → List ℕ → Type 0
IsTextOf form signature name octets x text =
    (s : SheetParts) × IsSheet octets x s
    × (text ≡ record_text form (sheet_behind (field_parts (codes "File") (file_text form name))
    (hashed octets (marked signature s))))

-- a sheet of the name of a file, of what was checked of the signatures, of the verdict, and of these fields
abbrev pub verdict_over : List FieldParts → Signature → (name said : List ℕ) → SheetParts
verdict_over fields signature name said =
    sheet_behind (field_parts (codes "File") name)
    (marked signature (sheet_behind (field_parts (codes "Verdict") said) (plain_sheet fields)))

abbrev pub verdict_sheet : Signature → (name said : List ℕ) → SheetParts
verdict_sheet signature name said = verdict_over [] signature name said

-- The verdict on a file, OK or what is wrong: a line, or an object of JSON on a line; and there what was checked of the
-- signatures. It isn't under the name `validation`, by which `rpki-client -f -j` means a whole path.
abbrev pub verdict : Form → Signature → (name said : List ℕ) → List ℕ
verdict Text signature name said = line name said
verdict Json signature name said = rendering Json (verdict_sheet signature name said)

-- what goes to the output, what goes to the faults, and the status
pub record OutputParts : Type 0 where
  pub output : List ℕ
  pub faults : List ℕ
  pub status : ℕ

abbrev pub shown_parts : List ℕ → List ℕ → ℕ → OutputParts
shown_parts output faults status = record { output = output; faults = faults; status = status }

-- the verdict on an object: what the RPKI doesn't use of it
abbrev pub objected : Form → Signature → (name said : List ℕ) → OutputParts
objected form signature name said = shown_parts (verdict form signature name said) [] 1

-- the same; or that all is well
abbrev pub checked_parts : Form → Signature → (well name : List ℕ) → Option (List ℕ) → OutputParts
checked_parts form signature well name None = shown_parts (verdict form signature name well) [] 0
checked_parts form signature well name (Some said) = objected form signature name said

-- the verdict on a fault: what is wrong, and the two values that disagree, which JSON has as members of their own
abbrev pub fault_verdict : Form → (name : List ℕ) → Fault → Option ToldParts → List ℕ
fault_verdict Text name fault t = line name (told_text fault t)
fault_verdict Json name fault t =
    rendering Json (verdict_over (values_fields t) (signature_in fault) name (fault_text fault))

abbrev pub checked_fault : Form → (name : List ℕ) → Fault → Option ToldParts → OutputParts
checked_fault form name fault t = shown_parts (fault_verdict form name fault t) [] (status_of fault)

-- the same of an object's fault
abbrev pub IsCheckedFault : Form → TermParts → (name : List ℕ) → Object → Fault → OutputParts → Type 0
IsCheckedFault form terms name x fault s =
    (t : Option ToldParts) × AreTold (values_of terms x fault) t × (s ≡ checked_fault form name fault t)

-- of a certificate of an algorithm that the RPKI doesn't use: which one
abbrev pub checked_other : Form → (name : List ℕ) → Option (List ℕ) → OutputParts
checked_other form name None = checked_fault form name OtherAlgorithm None
checked_other form name (Some said) = objected form Unchecked name said

-- each rule that is broken, by its section, as an item
abbrev pub rule_item : Violation → List FieldParts
rule_item v = field_parts (codes "Rule") (violation_text v) ∷ []

-- the line of a rule that is broken
abbrev pub rule_line : (name : List ℕ) → Violation → List ℕ
rule_line name v = line name (fault_text (Violated v))

-- The verdict on an object whose certificate breaks these rules, of which this is the first: a line for each; in JSON
-- that of the first, and after it each of them.
abbrev pub violated : Form → (name : List ℕ) → (first : Violation) → List Violation → List ℕ
violated Text name first all = flat_map (rule_line name) all
violated Json name first all =
    rendering Json (sheet_with (listing_parts (codes "Violations") (map rule_item all) true)
    (verdict_sheet (signature_in (Violated first)) name (fault_text (Violated first))))

-- The verdict on an object, which doesn't hold for this fault, or holds: where its certificate violates a profile, all
-- of the rules that it breaks, but what only follows; where it is of an algorithm that the RPKI doesn't use, which one.
abbrev pub IsChecked : Form → TermParts → (name : List ℕ) → Object → Option Fault → OutputParts → Type 0
IsChecked form terms name x None s =
    s
    ≡ checked_parts form (signature_of (is_some terms.issuer) x)
    (well_text (is_some terms.issuer) (is_some terms.revocations) x) name (objection_to x)
IsChecked form terms name x (Some (Violated v)) s =
    (all : List Violation) × AreViolations terms.inspection x all
    × (s ≡ shown_parts (violated form name v (telling all)) [] (status_of (Violated v)))
IsChecked form terms name x (Some OtherAlgorithm) s = s ≡ checked_other form name (objection_to x)
IsChecked form terms name x (Some fault) s = IsCheckedFault form terms name x fault s

-- a fault, where there is one, as a line among the faults, with the values that disagree, and its status
abbrev pub fault_line : (name : List ℕ) → Option Fault → Option ToldParts → List ℕ
fault_line name None t = []
fault_line name (Some fault) t = codes "rpkicert: " ++ line name (told_text fault t)

abbrev pub status_in : Option Fault → ℕ
status_in None = 0
status_in (Some fault) = status_of fault

-- an object by its sheet, whether it holds or not, and a fault by a line among the faults; or only the verdict
abbrev pub IsOutput : (check : Bool) → Form → TermParts → List ℕ → Finding → OutputParts → Type 0
IsOutput true form terms name (Ok found) s = IsChecked form terms name found.object found.fault s
IsOutput true form terms name (Err fault) s = s ≡ checked_fault form name fault None
IsOutput false form terms name (Ok found) s =
    (text : List ℕ)
    × IsTextOf form (signature_found (is_some terms.issuer) found.object found.fault) name found.octets found.object
    text
    × (t : Option ToldParts) × AreTold (values_found terms found.object found.fault) t
    × (s ≡ shown_parts text (fault_line name found.fault t) (status_in found.fault))
IsOutput false form terms name (Err fault) s =
    s ≡ shown_parts [] (fault_line name (Some fault) None) (status_of fault)

-- What is seen of a file: what was found, as it is shown; or that there was no memory to show it.
abbrev pub IsSeen : (check : Bool) → Form → TermParts → List ℕ → Option (List ℕ) → OutputParts → Type 0
IsSeen check form terms name source s =
    ((finding : Finding) × Finds terms source finding × IsOutput check form terms name finding s)
    ⊎ (s ≡ shown_parts [] memory_text 2)

-- ---- a trust anchor locator (RFC 8630)

-- that a locator is well; the certificate that it names isn't looked at
abbrev pub locator_verdict : List ℕ
locator_verdict = codes "OK, certificate not checked"

-- its file and the digest, and then this sheet, in one form or the other; or only the verdict
abbrev pub locator_shown : (check : Bool) → Form → (name text : List ℕ) → SheetParts → List ℕ
locator_shown true form name text s = verdict form Unchecked name locator_verdict
locator_shown false form name text s =
    record_text form
    (sheet_behind (field_parts (codes "File") (file_text form name)) (hashed text (marked Unchecked s)))

-- a locator as it is shown, and a fault as of an object
abbrev pub IsLocatorOutput : (check : Bool) → Form → TermParts → (name text : List ℕ) → Result SheetParts Fault
    → OutputParts → Type 0
IsLocatorOutput check form terms name text (Ok sheet) s =
    s ≡ shown_parts (locator_shown check form name text sheet) [] 0
IsLocatorOutput check form terms name text (Err fault) s = IsOutput check form terms name (Err fault) s

-- what is seen of a text that is neither DER nor PEM: it is read as a locator
abbrev pub IsLocatorSeen : (check : Bool) → Form → TermParts → (name text : List ℕ) → OutputParts → Type 0
IsLocatorSeen check form terms name text s =
    (r : Result SheetParts Fault) × ReadsLocator terms name text r × IsLocatorOutput check form terms name text r s

-- ---- an input

-- what is seen of an input that was read, which is neither DER nor PEM, or is one of these
abbrev pub IsSeenAs : (other : Bool) → (check : Bool) → Form → TermParts → List ℕ → (input : List ℕ) → OutputParts
    → Type 0
IsSeenAs true check form terms name input s = IsLocatorSeen check form terms name input s
IsSeenAs false check form terms name input s =
    (finding : Finding) × FindsIn terms input finding × IsOutput check form terms name finding s

-- what is seen of an input that was read, as it is shown
abbrev pub IsSeenIn : (check : Bool) → Form → TermParts → List ℕ → (input : List ℕ) → OutputParts → Type 0
IsSeenIn check form terms name input s = IsSeenAs (is_other input) check form terms name input s

-- there was no memory to find what is shown, or to show it
abbrev pub LacksMemory : (check : Bool) → Form → TermParts → List ℕ → OutputParts → Type 0
LacksMemory check form terms name s =
    IsOutput check form terms name (Err OutOfMemory) s ⊎ (s ≡ shown_parts [] memory_text 2)

-- where something is seen with the status 0, nothing else is, unless memory is lacking
abbrev pub HasOneGoodAnswer : (check : Bool) → Form → TermParts → List ℕ → Option (List ℕ) → Type 0
HasOneGoodAnswer check form terms name source =
    (s t : OutputParts) → IsSeen check form terms name source s → s.status ≡ 0 → IsSeen check form terms name source t
    → (t ≡ s) ⊎ LacksMemory check form terms name t

-- ---- files

-- what was seen, one after the other, and the greatest status
abbrev pub outputs : List OutputParts → List ℕ
outputs all = flat_map (λ s. s.output) all

abbrev pub faults : List OutputParts → List ℕ
faults all = flat_map (λ s. s.faults) all

abbrev pub worst : List OutputParts → ℕ
worst [] = 0
worst (s ∷ ss) = max s.status (worst ss)

abbrev pub joined : List OutputParts → OutputParts
joined all = shown_parts (outputs all) (faults all) (worst all)

-- the name of a certificate in a file that has several
abbrev pub numbered : List ℕ → ℕ → List ℕ
numbered name number = name ++ codes " (" ++ decimal number ++ codes ")"

-- P of each of these texts, in order, and of the name of the file with the number of the text, from this number on
abbrev pub AreSeenFrom : (List ℕ → List ℕ → OutputParts → Type 0) → (name : List ℕ) → (number : ℕ)
    → List (List ℕ) → List OutputParts → Type 0
AreSeenFrom P name number [] [] = Unit {0}
AreSeenFrom P name number [] (s ∷ ss) = ⊥
AreSeenFrom P name number (text ∷ texts) [] = ⊥
AreSeenFrom P name number (text ∷ texts) (s ∷ ss) =
    P (numbered name number) text s × AreSeenFrom P name (suc number) texts ss

-- each of the texts of a file is seen as if it were a file of its own
abbrev pub IsSeenEach : (check : Bool) → Form → TermParts → List ℕ → List (List ℕ) → OutputParts → Type 0
IsSeenEach check form terms name texts s =
    (all : List OutputParts) × AreSeenFrom (IsSeenIn check form terms) name 1 texts all × (s ≡ joined all)

-- the texts of the certificates in a file that has several, and isn't too large
abbrev pub bundle_of : Option (List ℕ) → Option (List (List ℕ))
bundle_of None = None
bundle_of (Some input) = if nat_lt most_octets (length input) then None else bundle_in input

-- the text of a file that is neither DER nor PEM, and isn't too large
abbrev pub other_of : Option (List ℕ) → Option (List ℕ)
other_of None = None
other_of (Some input) = if nat_lt most_octets (length input) then None else if is_other input then Some input else None

-- What is seen of a file: of all of it, as of an object or as of a locator; of each of the certificates in it, if it
-- has several; or there was no memory.
pub data IsSeenOf (check : Bool) (form : Form) (terms : TermParts) (name : List ℕ) (source : Option (List ℕ))
    (s : OutputParts) : Type 0 where
  OfAll : bundle_of source ≡ None → other_of source ≡ None → IsSeen check form terms name source s
      → IsSeenOf check form terms name source s
  OfLocator : (text : List ℕ) → bundle_of source ≡ None → other_of source ≡ Some text
      → IsLocatorSeen check form terms name text s → IsSeenOf check form terms name source s
  OfEach : (texts : List (List ℕ)) → bundle_of source ≡ Some texts → IsSeenEach check form terms name texts s
      → IsSeenOf check form terms name source s
  OfNone : LacksMemory check form terms name s → IsSeenOf check form terms name source s

-- where a file is seen with the status 0, it is seen alike whenever the status is 0
abbrev pub HasOneGoodText : (check : Bool) → Form → TermParts → List ℕ → Option (List ℕ) → Type 0
HasOneGoodText check form terms name source =
    (s t : OutputParts) → IsSeenOf check form terms name source s → s.status ≡ 0
    → IsSeenOf check form terms name source t → t.status ≡ 0 → t ≡ s

-- what is seen of each file, in order
abbrev pub AreSeen : (List ℕ → OutputParts → Type 0) → List (List ℕ) → List OutputParts → Type 0
AreSeen P [] [] = Unit {0}
AreSeen P [] (s ∷ ss) = ⊥
AreSeen P (name ∷ names) [] = ⊥
AreSeen P (name ∷ names) (s ∷ ss) = P name s × AreSeen P names ss

-- what is shown of a file is written, and the status is that; or it can't be
abbrev pub WritesBoth : World → World → OutputParts → Option ℕ → Type 0
WritesBoth old new s (Some status) = Writes old new s.output s.faults × (status ≡ s.status)
WritesBoth old new s None = IsCut old new s.output s.faults

-- What is seen of these files, whose names P knows: of each, in order, and the greatest status; or of those in front of
-- one whose own can't be written, and the status is 2.
pub data IsRun (P : List ℕ → OutputParts → Type 0) (names : List (List ℕ)) (old new : World) (status : ℕ) : Type 0
  where
    Whole : (all : List OutputParts) → AreSeen P names all → Writes old new (outputs all) (faults all)
        → status ≡ worst all → IsRun P names old new status
    Cut : (front rest : List (List ℕ)) (name : List ℕ) (all : List OutputParts) (s : OutputParts) (mid : World)
        → names ≡ front ++ name ∷ rest → AreSeen P front all → P name s
        → Writes old mid (outputs all) (faults all) → IsCut mid new s.output s.faults → status ≡ 2
        → IsRun P names old new status

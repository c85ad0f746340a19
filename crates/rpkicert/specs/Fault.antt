-- What is wrong with a file.
use Rattle.std.specs.Prelude.{ℕ, nat_eq, Bool, false, if◌then◌else◌, List, [], ◌++◌, codes, decimal, unwrap_or, Option}
use Rattle.std.specs.List.{ends_with}
use Rattle.rpki_der.specs.declared.error.DecodeError.{DecodeError}
use Rattle.rpki_der.specs.declared.error.DecodeError.TheVariants.{Truncated, BadTag, BadLength, Unexpected, Content}
use Rattle.rpki_der.specs.declared.error.DecodeError.TheVariants.{Trailing}
use Rattle.rpki_der.specs.declared.error.DecodeError.TheVariants as der
use Rattle.rpki_der.specs.ErrorText.{error_text}
use Rattle.rpki.specs.ErrorContent.{validation_text}
use Rattle.rpki.specs.declared.repository.error.ValidationError.{ValidationError}
use Rattle.rpki_locator.specs.declared.error.LocatorError.{LocatorError}
use Rattle.rpki_locator.specs.declared.error.LocatorError.TheVariants as L
use Rattle.rpki_fields.specs.declared.object_type.ObjectType.{ObjectType}
use Rattle.rpki_fields.specs.ObjectType.{kind_text}
use Rattle.rpki_fields.specs.PartText.{text_of_part}
use Rattle.rpki_fields.specs.declared.part.Part.{Part}
use Rattle.std.specs.declared.io.ErrorKind.{ErrorKind}
use Rattle.std.specs.declared.io.ErrorKind.TheVariants.{NotFound, PermissionDenied, IsADirectory}
use Rattle.rpkicert.specs.declared.fault.Cause.{Cause}
use Rattle.rpkicert.specs.declared.fault.Cause.TheVariants.{Absent, Denied, Folder, Other, Special}
use Rattle.rpkicert.specs.declared.fault.Fault.{Fault}
use Rattle.rpkicert.specs.declared.fault.Fault.TheVariants.{Unreadable, TooLarge, OutOfMemory, Malformed, Refused}
use Rattle.rpkicert.specs.declared.fault.Fault.TheVariants.{OtherText}
use Rattle.rpkicert.specs.declared.fault.Fault.TheVariants.{Empty, Neither, NoLocator}
use Rattle.rpkicert.specs.declared.fault.Fault.TheVariants.{Violated, Unverified, NoCertificate, NoList, OtherAlgorithm}
use Rattle.rpkicert.specs.declared.pem.TextKind.{TextKind}
use Rattle.rpkicert.specs.declared.pem.TextKind.TheVariants as T
use Rattle.rpkicert.specs.declared.fault.Clause.{Clause}
use Rattle.rpkicert.specs.declared.fault.Clause.TheVariants as C
use Rattle.rpkicert.specs.Violation.{has_section, violation_text}

-- a file has at most so many octets
abbrev pub most_octets : ℕ
most_octets = 4_000_000

-- the cause that the host's error of a kind is
abbrev pub cause_of : ErrorKind → Cause
cause_of NotFound = Absent
cause_of PermissionDenied = Denied
cause_of IsADirectory = Folder
cause_of kind = Other

-- that a file could not be read, and why, in the host's words (POSIX, <errno.h>)
abbrev pub unreadable_text : Cause → List ℕ
unreadable_text Absent = codes "cannot be read: No such file or directory"
unreadable_text Denied = codes "cannot be read: Permission denied"
unreadable_text Folder = codes "cannot be read: Is a directory (-r prints the files in it)"
unreadable_text Special = codes "cannot be read: Not a regular file"
unreadable_text Other = codes "cannot be read"

-- the section of what has to hold of an object
abbrev pub clause_text : Clause → List ℕ
clause_text C.Period = codes "RFC 6487 7.2"
clause_text C.Updates = codes "RFC 5280 6.3.3"
clause_text C.Manifest = codes "RFC 9286 6.3"
clause_text C.Object = codes "RFC 6488 3"
clause_text C.Inherited = codes "RFC 9286 5.1"
clause_text C.Origins = codes "RFC 9582 5"
clause_text C.Customer = codes "draft-ietf-sidrops-aspa-profile 4"
clause_text C.Anchor = codes "RFC 8630 2.3"
clause_text C.Certificate = codes "RFC 6487 7.2"
clause_text C.List = codes "RFC 5280 6.3.3"
clause_text C.Revoked = codes "RFC 6487 7.2"

-- the text of a signature that isn't good, after its section, if that is there
abbrev pub bad_text : List ℕ
bad_text = codes "bad signature"

abbrev pub text_in : ValidationError → List ℕ
text_in e = unwrap_or (validation_text e) []

-- the error is that of a signature that isn't good
abbrev pub is_bad_signature : ValidationError → Bool
is_bad_signature e = ends_with nat_eq (text_in e) bad_text

-- what is wrong with a clause that is broken, after a section: that of the text, or else that of the clause
abbrev pub clause_told : Clause → List ℕ → List ℕ
clause_told clause said = if has_section said then said else clause_text clause ++ codes ": " ++ said

-- what is wrong with a text that is no trust anchor locator, and on which line; where memory fails, no text is made
abbrev pub line_text : LocatorError → List ℕ
line_text (L.OtherUri n) = codes "line " ++ (decimal n ++ codes ": not a URI of a trust anchor")
line_text (L.NoUri n) = codes "line " ++ (decimal n ++ codes ": no URI")
line_text (L.NoKey n) = codes "line " ++ (decimal n ++ codes ": no empty line before the key")
line_text (L.OtherText n) = codes "line " ++ (decimal n ++ codes ": not base 64")
line_text (L.OtherKey n e) = codes "line " ++ (decimal n ++ (codes ": not a public key: " ++ error_text e))
line_text L.OutOfMemory = []

-- a text that is neither DER nor PEM is no trust anchor locator: it doesn't begin as one, or this is wrong with it
abbrev pub is_at_first : LocatorError → Bool
is_at_first (L.OtherUri n) = nat_eq n 1
is_at_first (L.NoUri n) = nat_eq n 1
is_at_first e = false

abbrev pub no_locator_text : LocatorError → List ℕ
no_locator_text e =
    if is_at_first e then codes "neither DER nor PEM of an object, nor a trust anchor locator"
    else codes "not a trust anchor locator: " ++ line_text e

-- what a text of RFC 7468 has in place of a certificate or a list
abbrev pub text_name : TextKind → List ℕ
text_name T.PrivateKey = codes "a private key"
text_name T.PublicKey = codes "a public key"
text_name T.Request = codes "a certificate request"
text_name T.SignedData = codes "signed data, which is read as DER"
text_name T.Other = codes "of another kind"

abbrev pub fault_text : Fault → List ℕ
fault_text (Unreadable cause) = unreadable_text cause
fault_text TooLarge = codes "larger than 4000000 octets"
fault_text OutOfMemory = codes "out of memory"
fault_text Empty = codes "empty"
fault_text Neither = codes "neither DER nor PEM of an object"
fault_text (NoLocator e) = no_locator_text e
fault_text Malformed = codes "not one certificate or list in PEM"
fault_text (OtherText kind) = codes "not one certificate or list in PEM: " ++ text_name kind
fault_text (Refused kind place e) = codes "not a " ++ kind_text kind ++ codes ": " ++ text_of_part place ++ error_text e
fault_text (Violated v) = codes "violates the profile: " ++ violation_text v
fault_text (Unverified clause e) = clause_told clause (text_in e)
fault_text NoCertificate = codes "not a certificate"
fault_text NoList = codes "not a revocation list"
fault_text OtherAlgorithm = codes "RFC 7935 2, 3: of an algorithm that the RPKI doesn't use"

-- the exit status
abbrev pub status_of : Fault → ℕ
status_of (Unreadable cause) = 2
status_of TooLarge = 2
status_of OutOfMemory = 2
status_of Empty = 1
status_of Neither = 1
status_of (NoLocator e) = 1
status_of Malformed = 1
status_of (OtherText kind) = 1
status_of (Refused kind place e) = 1
status_of (Violated v) = 1
status_of (Unverified clause e) = 1
status_of NoCertificate = 1
status_of NoList = 1
status_of OtherAlgorithm = 1

-- the fault of a reader's error, of octets of this kind, in this place
abbrev pub refusal : ObjectType → Option Part → DecodeError → Fault
refusal kind place Truncated = Refused kind place Truncated
refusal kind place BadTag = Refused kind place BadTag
refusal kind place BadLength = Refused kind place BadLength
refusal kind place Unexpected = Refused kind place Unexpected
refusal kind place (Content e) = Refused kind place (Content e)
refusal kind place Trailing = Refused kind place Trailing
refusal kind place der.OutOfMemory = OutOfMemory

-- The payloads that are written: those that are found, with local exceptions (RFC 8416).
use denote.Bor.{Bor}
use Rattle.std.specs.Prelude.{◌≡◌, ◌++◌, ℕ, List, [], ◌∷◌, Some, IfSome, string_bytes}
use Rattle.rpki_payloads.specs.declared.conflict.Conflict.{Conflict}
use Rattle.rpki_payloads.specs.declared.exceptions.Exceptions.{Exceptions}
use Rattle.rpki_payloads.specs.declared.exceptions.NamedExceptions.{NamedExceptions}
use Rattle.rpki_payloads.specs.Conflict.{IsConflict}
use Rattle.rpki_payloads.specs.Exceptions.{AreEach, AreExcepted}
use Rattle.rpki_payloads.specs.ExceptionsText.{AreExceptions}
use Rattle.rpki_payloads.specs.Payloads.{PayloadParts}
use Rattle.rpkivalid.specs.Locators.{Holds, name_of}

-- these exceptions are in the file
abbrev pub AreExceptionsAt : Holds → List ℕ → Exceptions → Type 0
AreExceptionsAt holds path e =
    IfSome holds (λ files. (octets : List ℕ) × (files path ≡ Some octets) × AreExceptions octets e)

-- these are, under its name
abbrev pub IsFileIn : Holds → List ℕ → NamedExceptions → Type 0
IsFileIn holds path named =
    (string_bytes named.name ≡ name_of path) × AreExceptionsAt holds path named.exceptions

-- these are in the files, in their order, and no two are in conflict (RFC 8416 4.2)
abbrev pub AreLocal : Holds → List (List ℕ) → List NamedExceptions → Type 0
AreLocal holds paths all = AreEach (IsFileIn holds) paths all × ((c : Conflict) → IsConflict all c → ⊥)

-- without a file those that are found; with some what their exceptions leave of them, and then what these add, under
-- the names of the files
abbrev pub AreShown : Holds → List (List ℕ) → List PayloadParts → List PayloadParts → Type 0
AreShown holds [] found shown = shown ≡ found
AreShown holds (path ∷ paths) found shown =
    (all : List NamedExceptions) × AreLocal holds (path ∷ paths) all × AreExcepted all found shown

-- ---- in two steps

-- those in the file are added
pub record AddsFile (holds : Holds) (path : List ℕ) (old new : List NamedExceptions) : Type 0 where
  pub named : NamedExceptions
  pub is : IsFileIn holds path named
  pub added : new ≡ old ++ named ∷ []

-- the exceptions in the files of these names
abbrev pub AreFilesIn : Holds → List (Bor (List ℕ)) → List NamedExceptions → Type 0
AreFilesIn holds files all = AreEach (λ file. IsFileIn holds file.now) files all

-- what they leave and add, if there are any
abbrev pub Excepts : List NamedExceptions → List PayloadParts → List PayloadParts → Type 0
Excepts [] found shown = shown ≡ found
Excepts (named ∷ all) found shown = AreExcepted (named ∷ all) found shown

-- Which reason why nothing is written is true, of what was asked for and what files have.
use Rattle.std.specs.Prelude.{◌≡◌, ◌<◌, ◌⊎◌, ⊤, ℕ, false, List, Option, Some, None, IfSome, bytes_eq, length}
use Rattle.jiff.specs.Types.{DateTime}
use Rattle.rpki_locator.specs.Locator.{IsLocatorError}
use Rattle.rpki_payloads.specs.declared.conflict.Conflict.{Conflict}
use Rattle.rpki_payloads.specs.declared.exceptions.NamedExceptions.{NamedExceptions}
use Rattle.rpki_payloads.specs.Conflict.{IsConflict}
use Rattle.rpki_payloads.specs.Exceptions.{AreEach}
use Rattle.rpki_payloads.specs.ExceptionsText.{IsTextFault}
use Rattle.rpki_payloads.specs.Listed.{IsListFault}
use Rattle.rpki_resources.specs.declared.as_text.Asn.{Asn}
use Rattle.rpki_resources.specs.declared.ip_text.Prefix.{Prefix}
use Rattle.rpki_resources.specs.AsRead.{IsAsnText}
use Rattle.rpki_resources.specs.IpRead.{IsPrefixText}
use Rattle.rpki_text.specs.declared.uri.error.Error.{Error}
use Rattle.rpki_text.specs.RsyncText.{rsync_refusal}
use Rattle.rpkivalid.specs.declared.denial.Denial.{Denial}
use Rattle.rpkivalid.specs.declared.denial.Denial.TheVariants as D
use Rattle.rpkivalid.specs.Denied.{name_at, name_in}
use Rattle.rpkivalid.specs.Excepted.{IsFileIn}
use Rattle.rpkivalid.specs.Locators.{Holds, name_of}
use Rattle.rpkivalid.specs.Moment.{IsNoDepth, IsNoMoment}
use Rattle.rpkivalid.specs.Request.{Asked}

-- ---- of files

-- there is none at the path, or it can't be read
abbrev pub IsNoFile : Holds → List ℕ → Type 0
IsNoFile holds path = IfSome holds (λ files. files path ≡ None)

-- P is true of what is in the file
abbrev pub HasOther : Holds → List ℕ → (List ℕ → Type 0) → Type 0
HasOther holds path P = IfSome holds (λ files. (octets : List ℕ) × (files path ≡ Some octets) × P octets)

-- of the file of a locator, which has this number
abbrev pub IsLocatorDenialAt : Holds → List ℕ → ℕ → Denial → Type 0
IsLocatorDenialAt holds path number (D.NoFile i) = (i ≡ number) × IsNoFile holds path
IsLocatorDenialAt holds path number (D.NoLocator i e) =
    (i ≡ number) × HasOther holds path (λ octets. IsLocatorError octets e)
IsLocatorDenialAt holds path number D.OutOfMemory = ⊤
IsLocatorDenialAt holds path number d = ⊥

-- of the files of locators: of one, or two have the same name
pub data IsLocatorDenial (holds : Holds) (paths : List (List ℕ)) (d : Denial) : Type 0 where
  OfLocator : (i : ℕ) → i < length paths → IsLocatorDenialAt holds (name_at paths i) i d
      → IsLocatorDenial holds paths d
  OfName : (i j : ℕ) → i < length paths → j < length paths → d ≡ D.SameName i
      → bytes_eq (name_at paths i) (name_at paths j) ≡ false → name_of (name_at paths j) ≡ name_of (name_at paths i)
      → IsLocatorDenial holds paths d

-- of a file of local exceptions, which has this number; nothing is said of the line
abbrev pub IsExceptionsDenialAt : Holds → List ℕ → ℕ → Denial → Type 0
IsExceptionsDenialAt holds path number (D.NoExceptions i) = (i ≡ number) × IsNoFile holds path
IsExceptionsDenialAt holds path number (D.OtherExceptions i e line) =
    (i ≡ number) × HasOther holds path (λ octets. IsTextFault octets e)
IsExceptionsDenialAt holds path number D.OutOfMemory = ⊤
IsExceptionsDenialAt holds path number d = ⊥

-- of the files of local exceptions: of one, or two are in conflict
pub data IsExceptionsDenial (holds : Holds) (paths : List (List ℕ)) (d : Denial) : Type 0 where
  OfException : (i : ℕ) → i < length paths → IsExceptionsDenialAt holds (name_at paths i) i d
      → IsExceptionsDenial holds paths d
  OfConflict : (c : Conflict) (all : List NamedExceptions) → d ≡ D.InConflict c
      → AreEach (IsFileIn holds) paths all → IsConflict all c → IsExceptionsDenial holds paths d
  OfMemory : d ≡ D.OutOfMemory → IsExceptionsDenial holds paths d

-- of the file to be compared
abbrev pub IsListDenialAt : Holds → List ℕ → Denial → Type 0
IsListDenialAt holds path D.NoList = IsNoFile holds path
IsListDenialAt holds path (D.OtherList e) = HasOther holds path (λ octets. IsListFault octets e)
IsListDenialAt holds path D.OutOfMemory = ⊤
IsListDenialAt holds path d = ⊥

abbrev pub IsListDenial : Holds → Option (List ℕ) → Denial → Type 0
IsListDenial holds file d = IsListDenialAt holds (name_in file) d

-- ---- of words

-- of the URI that is to be explained
abbrev pub IsObjectDenial : List ℕ → Denial → Type 0
IsObjectDenial word D.NoUri = (e : Error) × (rsync_refusal word ≡ Some e)
IsObjectDenial word D.OutOfMemory = ⊤
IsObjectDenial word d = ⊥

-- of the prefix and the AS number: one of them is none
abbrev pub IsOriginDenial : (word number : List ℕ) → Denial → Type 0
IsOriginDenial word number D.NoRoute =
    ((p : Prefix) → IsPrefixText word p → ⊥) ⊎ ((n : Asn) → IsAsnText number n → ⊥)
IsOriginDenial word number d = ⊥

-- of the AS number, which is alone
abbrev pub IsNumberDenial : Option (List ℕ) → Denial → Type 0
IsNumberDenial (Some number) D.NoRoute = ⊤
IsNumberDenial number d = ⊥

-- of what is to be explained
abbrev pub IsWordDenial : List ℕ → Option (List ℕ) → Denial → Type 0
IsWordDenial word None d = IsObjectDenial word d
IsWordDenial word (Some number) d = IsOriginDenial word number d

abbrev pub IsQuestionDenial : (word number : Option (List ℕ)) → Denial → Type 0
IsQuestionDenial None number d = IsNumberDenial number d
IsQuestionDenial (Some word) number d = IsWordDenial word number d

-- ---- all of them

-- of locators or local exceptions
pub data IsUnfound (holds : Holds) (a : Asked) (d : Denial) : Type 0 where
  OfLocators : IsLocatorDenial holds a.locators d → IsUnfound holds a d
  OfExceptions : IsExceptionsDenial holds a.exceptions d → IsUnfound holds a d
  OfRun : d ≡ D.OutOfMemory → IsUnfound holds a d

-- of anything
pub data IsDenial (holds : Holds) (clock : Option (Option DateTime)) (a : Asked) (d : Denial) : Type 0 where
  OfMoment : d ≡ D.NoMoment → IsNoMoment clock a.moment → IsDenial holds clock a d
  OfDepth : d ≡ D.NoDepth → IsNoDepth a.depth → IsDenial holds clock a d
  OfQuestion : IsQuestionDenial a.explain a.number d → IsDenial holds clock a d
  OfList : IsListDenial holds a.compare d → IsDenial holds clock a d
  OfFiles : IsUnfound holds a d → IsDenial holds clock a d

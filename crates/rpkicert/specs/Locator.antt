-- What is read of a trust anchor locator (RFC 8630).
use Rattle.std.specs.Prelude.{◌≡◌, ◌||◌, ℕ, Bool, true, false, is_some, List, Result, Ok, Err}
use Rattle.std.specs.Option.{unwrap_or}
use Rattle.std.specs.Path.{path_file_stem}
use Rattle.rpki.specs.PublicKey.{KeyParts}
use Rattle.rpki_locator.specs.declared.error.LocatorError.{LocatorError}
use Rattle.rpki_locator.specs.declared.error.LocatorError.TheVariants as L
use Rattle.rpki_locator.specs.Locator.{IsLocator, IsLocatorError}
use Rattle.rpki_fields.specs.LocatorText.{IsSheetOfLocator}
use Rattle.rpki_fields.specs.Sheet.{SheetParts}
use Rattle.rpkicert.specs.declared.fault.Fault.{Fault}
use Rattle.rpkicert.specs.declared.fault.Fault.TheVariants.{OutOfMemory, NoCertificate, NoLocator}
use Rattle.rpkicert.specs.Profiled.{names_profile}
use Rattle.rpkicert.specs.Requirements.{TermParts}

-- the name of a locator: that of its file, without what follows the last full stop
abbrev pub name_of : List ℕ → List ℕ
name_of path = unwrap_or (path_file_stem path) path

-- a certificate is asked for: one that has the profile that was named, or is of the issuer
abbrev pub asks_cert : TermParts → Bool
asks_cert terms = names_profile terms.inspection || is_some terms.issuer

-- the fault of a reader's error
abbrev pub no_locator : LocatorError → Fault
no_locator (L.OtherUri line) = NoLocator (L.OtherUri line)
no_locator (L.NoUri line) = NoLocator (L.NoUri line)
no_locator (L.NoKey line) = NoLocator (L.NoKey line)
no_locator (L.OtherText line) = NoLocator (L.OtherText line)
no_locator (L.OtherKey line e) = NoLocator (L.OtherKey line e)
no_locator L.OutOfMemory = OutOfMemory

-- why a text is no locator, or not what is asked for; or allocation failed
pub data IsNoLocator (terms : TermParts) (text : List ℕ) (fault : Fault) : Type 0 where
  NotAsked : (uris : List (List ℕ)) → (key : KeyParts) → IsLocator text uris key → asks_cert terms ≡ true
      → fault ≡ NoCertificate → IsNoLocator terms text fault
  Wrong : (e : LocatorError) → IsLocatorError text e → fault ≡ no_locator e → IsNoLocator terms text fault
  Lacking : fault ≡ OutOfMemory → IsNoLocator terms text fault

-- the sheet of the locator that a text in the file of this name is, where no certificate is asked for; or why not
abbrev pub ReadsLocator : TermParts → (name text : List ℕ) → Result SheetParts Fault → Type 0
ReadsLocator terms name text (Ok s) = (asks_cert terms ≡ false) × IsSheetOfLocator (name_of name) text s
ReadsLocator terms name text (Err fault) = IsNoLocator terms text fault

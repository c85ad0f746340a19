-- What is found under the locators that are asked for, with the local exceptions.
use Rattle.std.specs.Prelude.{◌≡◌, ℕ, Bool, List}
use Rattle.rpki.specs.PublicKey.{KeyParts}
use Rattle.rpki_payloads.specs.declared.exceptions.NamedExceptions.{NamedExceptions}
use Rattle.rpki_payloads.specs.Payloads.{PayloadParts}
use Rattle.rpki_validation.specs.Basis.{Basis}
use Rattle.rpkivalid.specs.Enough.{some_anchored}
use Rattle.rpkivalid.specs.Excepted.{AreLocal, AreShown}
use Rattle.rpkivalid.specs.Found.{AreFound, IsFoundIn}
use Rattle.rpkivalid.specs.Locators.{AreLocatorsIn, Holds, NamedParts, once}
use Rattle.rpkivalid.specs.Reported.{AreTold, IsReportIn}
use Rattle.rpkivalid.specs.Request.{Asked}

-- payloads, what is told of the locators, whether each of them has a trust anchor, and whether one has
pub record ShownParts : Type 0 where
  pub payloads : List PayloadParts
  pub lines : List ℕ
  pub all : Bool
  pub some : Bool

-- These are the payloads under the locators that are asked for, this is told of them, and whether each locator has a
-- trust anchor; and these are the local exceptions, by which they are not changed yet.
pub record IsUnchanged (basis : KeyParts → Basis) (holds : Holds) (a : Asked) (found : List PayloadParts)
    (local : List NamedExceptions) (lines : List ℕ) (all : Bool) : Type 0 where
  pub locators : List NamedParts
  pub there : AreLocatorsIn holds (once a.locators) locators
  pub each : AreFound (IsFoundIn holds a.cache basis) locators found all
  pub told : AreTold (IsReportIn holds a.cache basis) locators lines all
  pub local_are : AreLocal holds a.exceptions local

-- These are the payloads under the locators that are asked for, with the local exceptions; and this is told of what is
-- found.
pub record IsShown (basis : KeyParts → Basis) (holds : Holds) (a : Asked) (s : ShownParts) : Type 0 where
  pub locators : List NamedParts
  pub there : AreLocatorsIn holds (once a.locators) locators
  pub found : List PayloadParts
  pub each : AreFound (IsFoundIn holds a.cache basis) locators found s.all
  pub told : AreTold (IsReportIn holds a.cache basis) locators s.lines s.all
  pub some_is : s.some ≡ some_anchored found
  pub excepted : AreShown holds a.exceptions found s.payloads

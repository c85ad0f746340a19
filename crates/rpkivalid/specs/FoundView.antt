-- What clauses see of what is found under locators.
use Rattle.std.specs.Prelude.{ℕ, List, map}
use Rattle.jiff.specs.Types.{DateTime}
use Rattle.rpki.specs.Checkers.{Models}
use Rattle.rpki_objects.specs.declared.strictness.Strictness.{Strictness}
use Rattle.rpkivalid.specs.declared.found.Found.{Found}
use Rattle.rpkivalid.specs.declared.found.Under.{Under}
use Rattle.rpkivalid.specs.declared.locators.Named.{Named}
use Rattle.rpkivalid.specs.Found.{AreFound, IsFoundIn, basis_with}
use Rattle.rpkivalid.specs.Locators.{Holds}
use Rattle.rpkivalid.specs.LocatorsView.{named_of}
use Rattle.rpkivalid.specs.Reported.{AreTold, IsReportIn}

module _ {X : Type 0} (models : Models X) (provider : X) (holds : Holds)
    (folder : List ℕ) (strictness : Strictness) (at : DateTime) (depth : ℕ) where
  -- the payloads under the locator, and whether it has a trust anchor
  abbrev pub IsFoundBy : Named → Under → Type 0
  IsFoundBy named one =
      IsFoundIn holds folder (basis_with models provider strictness at depth) (named_of named)
      one.payloads one.has_anchor

  -- what is told of it
  abbrev pub IsReportedBy : Named → Under → Type 0
  IsReportedBy named one =
      IsReportIn holds folder (basis_with models provider strictness at depth) (named_of named)
      one.report.items one.has_anchor

  -- those under these locators
  abbrev pub AreFoundBy : List Named → Found → Type 0
  AreFoundBy locators found =
      AreFound (IsFoundIn holds folder (basis_with models provider strictness at depth))
      (map named_of locators) found.payloads.items found.have_anchors

  -- what is told of them
  abbrev pub AreReportedBy : List Named → Found → Type 0
  AreReportedBy locators found =
      AreTold (IsReportIn holds folder (basis_with models provider strictness at depth))
      (map named_of locators) found.report.items found.have_anchors

-- What clauses see of a comparison.
use Rattle.rpki.specs.Checkers.{Models}
use Rattle.std.specs.Prelude.{ℕ, List, Vec}
use Rattle.std.specs.declared.alloc.Global.{Global}
use Rattle.jiff.specs.Types.{DateTime}
use Rattle.rpki_payloads.specs.declared.vrp.Vrp.{Vrp}
use Rattle.rpkivalid.specs.declared.compared.Compared.{Compared}
use Rattle.rpkivalid.specs.declared.compared.Ours.{Ours}
use Rattle.rpkivalid.specs.declared.denial.Denial.{Denial}
use Rattle.rpkivalid.specs.declared.request.Request.{Request}
use Rattle.rpkivalid.specs.Compared.{AreOurs, IsComparison, IsWhy}
use Rattle.rpkivalid.specs.Denying.{IsListDenialAt, IsUnfound}
use Rattle.rpkivalid.specs.Found.{basis_with}
use Rattle.rpkivalid.specs.Locators.{Holds}
use Rattle.rpkivalid.specs.RequestView.{asked_of}

-- why there is no comparison with the file
pub data IsUncomparedBy (holds : Holds) (request : Request) (file : List ℕ) (d : Denial) : Type 0 where
  OfList : IsListDenialAt holds file d → IsUncomparedBy holds request file d
  OfFiles : IsUnfound holds (asked_of request) d → IsUncomparedBy holds request file d

module _ {X : Type 0} (models : Models X) (provider : X) (holds : Holds)
    (at : DateTime) (depth : ℕ) (request : Request) where
  -- the payloads that are found
  abbrev pub AreOursBy : Ours → Type 0
  AreOursBy ours =
      AreOurs (basis_with models provider request.strictness at depth) holds (asked_of request)
      ours.vrps.items ours.report.items ours.have_anchors

  -- why payloads are there alone
  abbrev pub IsWhyBy : Vec Vrp Global → List ℕ → Type 0
  IsWhyBy alone text =
      IsWhy (basis_with models provider request.strictness at depth) holds (asked_of request) alone text

  -- the comparison with what the file lists
  abbrev pub Compares : List ℕ → Compared → Type 0
  Compares file c =
      IsComparison (basis_with models provider request.strictness at depth) holds (asked_of request)
      file c.text.items c.report.items c.have_anchors c.are_same

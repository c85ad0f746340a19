-- What clauses see of what is explained.
use Rattle.std.specs.Prelude.{ℕ, Bool, List, Vec, map}
use Rattle.jiff.specs.Types.{DateTime}
use Rattle.rpki.specs.Checkers.{Models}
use Rattle.rpki_objects.specs.declared.strictness.Strictness.{Strictness}
use Rattle.rpki_payloads.specs.declared.route.Route.{Route}
use Rattle.rpkivalid.specs.declared.explained.Explained.{Explained}
use Rattle.rpkivalid.specs.declared.locators.Named.{Named}
use Rattle.rpkivalid.specs.declared.question.Question.{Question}
use Rattle.rpkivalid.specs.declared.request.Request.{Request}
use Rattle.rpkivalid.specs.Explained.{IsExplanation, IsRefusedUnder, IsRouteTold, IsTold, IsToldIn, IsToldOf}
use Rattle.rpkivalid.specs.Found.{basis_with}
use Rattle.rpkivalid.specs.Locators.{Holds}
use Rattle.rpkivalid.specs.LocatorsView.{named_of}
use Rattle.rpkivalid.specs.Reported.{AreTold}
use Rattle.rpkivalid.specs.RequestView.{asked_of}

module _ {X : Type 0} (models : Models X) (provider : X) (holds : Holds) where
  module _ (folder : List ℕ) (strictness : Strictness) (at : DateTime) (depth : ℕ) where
    -- what is said of the object under the locator, and whether that has a trust anchor
    abbrev pub IsObjectToldBy : {Z : Type 0} → List ℕ → Named → Vec ℕ Z × Bool → Type 0
    IsObjectToldBy uri named one =
        IsToldIn holds folder (basis_with models provider strictness at depth) uri (named_of named)
        one.0.items one.1

    -- what attestations that are rejected say of what is asked
    abbrev pub IsRefusedBy : {Z : Type 0} → Question → Named → Vec ℕ Z × Bool → Type 0
    IsRefusedBy question named one =
        IsRefusedUnder holds folder strictness (basis_with models provider strictness at depth) question
        (named_of named) one.0.items one.1

    -- the one or the other
    abbrev pub IsToldBy : {Z : Type 0} → Question → Named → Vec ℕ Z × Bool → Type 0
    IsToldBy question named one =
        IsToldOf holds folder strictness (basis_with models provider strictness at depth) question
        (named_of named) one.0.items one.1

    -- under these locators
    abbrev pub AreToldBy : Question → List Named → Explained → Type 0
    AreToldBy question locators e =
        AreTold (IsToldOf holds folder strictness (basis_with models provider strictness at depth)
        question) (map named_of locators) e.text.items e.have_anchors

  module _ (at : DateTime) (depth : ℕ) (request : Request) where
    -- what is said under the locators that are asked for
    abbrev pub Tells : Question → Explained → Type 0
    Tells question e =
        IsTold (basis_with models provider request.strictness at depth) holds (asked_of request)
        question e.text.items e.have_anchors

    -- what payloads say of the route
    abbrev pub TellsRoute : Route → Explained → Type 0
    TellsRoute route e =
        IsRouteTold (basis_with models provider request.strictness at depth) holds (asked_of request)
        route e.text.items e.report.items e.have_anchors

    -- what is explained
    abbrev pub Explains : Question → Explained → Type 0
    Explains question e =
        IsExplanation (basis_with models provider request.strictness at depth) holds (asked_of request)
        question e.text.items e.report.items e.have_anchors

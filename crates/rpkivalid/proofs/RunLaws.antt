-- A run of what is asked for.
use Rattle.std.proofs.Common.{◌≡◌, ℕ, List, [], ◌∷◌, subst, sym}
use Rattle.std.specs.Prelude.{Option, Some}
use Rattle.jiff.specs.Types.{DateTime}
use Rattle.rpki_payloads.specs.Payloads.{PayloadParts}
use Rattle.rpki_payloads.specs.declared.exceptions.NamedExceptions.{NamedExceptions}
use Rattle.rpkivalid.specs.declared.denial.Denial.{Denial}
use Rattle.rpkivalid.specs.declared.request.Request.{Request}
use Rattle.rpkivalid.specs.ComparedView.{IsUncomparedBy, OfFiles as FilesAre, OfList as ListIs}
use Rattle.rpkivalid.specs.Denying.{IsDenial, IsListDenial}
use Rattle.rpkivalid.specs.Denying.IsDenial.{OfFiles, OfList}
use Rattle.rpkivalid.specs.Excepted.{AreLocal, AreShown, Excepts}
use Rattle.rpkivalid.specs.Locators.{Holds}
use Rattle.rpkivalid.specs.RequestView.{asked_of}

-- what is written is what is found, with the exceptions that are asked for
pub shown-by : (holds : Holds) (paths : List (List ℕ)) (local : List NamedExceptions) (found shown : List PayloadParts)
    → AreLocal holds paths local → Excepts local found shown → AreShown holds paths found shown
shown-by holds [] [] found shown h e = e
shown-by holds [] (named ∷ all) found shown h e = absurd h.0
shown-by holds (path ∷ paths) [] found shown h e = absurd h.0
shown-by holds (path ∷ paths) (named ∷ all) found shown h e = (named ∷ all, h, e)

-- why there is no comparison
pub uncompared : (holds : Holds) (clock : Option (Option DateTime)) (request : Request) (file : List ℕ) (d : Denial)
    → (asked_of request).compare ≡ Some file → IsUncomparedBy holds request file d
    → IsDenial holds clock (asked_of request) d
uncompared holds clock request file d same (FilesAre h) = OfFiles h
uncompared holds clock request file d same (ListIs h) =
    OfList (subst (λ (o : Option (List ℕ)). IsListDenial holds o d) (sym same) h)

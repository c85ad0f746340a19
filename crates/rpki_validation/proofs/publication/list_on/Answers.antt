use Rattle.std.proofs.Common.{sym}
use Rattle.rpki_x509.proofs.TriedLaws.{tried-fault}
use Rattle.rpki_validation.proofs.PublicationLaws.{list-found, no-list, none-listed, not-there}
use Rattle.rpki_validation.proofs.publication.list_on.Goals as goal

pub returns-in_err-octets-in-Some : goal.returns-in_err-octets-in-Some
returns-in_err-octets-in-Some g c = λ published known.
    let sha256 = g.P.Provider.sha256_of c.args.provider.now in
    tried-fault _ _ _ _ c.from_residual.ensures
    (not-there published sha256 c.args.folder.now c.args.files.now c.in-Some.file.now (sym c.in-Some.ensures) _
    (c.in_err-octets-in-Some.ensures published known))

pub returns-in_err-list-in-Some : goal.returns-in_err-list-in-Some
returns-in_err-list-in-Some g c = λ published known.
    let sha256 = g.P.Provider.sha256_of c.args.provider.now in
    tried-fault _ _ _ _ c.from_residual-in_err-list-in-Some.ensures
    (no-list published sha256 c.args.folder.now c.args.files.now c.in-Some.file.now (sym c.in-Some.ensures)
    c.in_ok-octets-in-Some.octets (c.in_ok-octets-in-Some.ensures published known) _ c.in_err-list-in-Some.ensures)

pub returns-in_err-cache_serials-in-Some : goal.returns-in_err-cache_serials-in-Some
returns-in_err-cache_serials-in-Some g c = λ published known.
    tried-fault _ _ _ _ c.from_residual-in_err-cache_serials-in-Some.ensures tt

pub returns-in_ok-cache_serials-in-Some : goal.returns-in_ok-cache_serials-in-Some
returns-in_ok-cache_serials-in-Some g c = λ published known.
    let sha256 = g.P.Provider.sha256_of c.args.provider.now in
    rw c.cache_serials.ensures
    (list-found published sha256 c.args.folder.now c.args.files.now c.in-Some.file.now (sym c.in-Some.ensures)
    c.in_ok-octets-in-Some.octets (c.in_ok-octets-in-Some.ensures published known) c.in_ok-list-in-Some.list
    c.in_ok-list-in-Some.ensures)

pub returns-in-None : goal.returns-in-None
returns-in-None g c = λ published known.
    none-listed published (g.P.Provider.sha256_of c.args.provider.now) c.args.folder.now c.args.files.now
    (sym c.in-None.ensures)

use Rattle.rpki_x509.proofs.TriedLaws.{tried-fault}
use Rattle.rpki_validation.proofs.PublicationLaws.{no-folder, no-place, no-manifest, no-list-there, publication-found}
use Rattle.rpki_validation.proofs.publication.Publication.of.Goals as goal

pub returns-in_err-folder : goal.returns-in_err-folder
returns-in_err-folder g c = λ published known.
    let a = c.args.issuer.now in
    let strict = a.terms.strictness.attributes in
    let none = rw (c.tbs-tbs.ensures, c.cert.ensures.value) at c.in_err-folder.ensures in
    tried-fault _ _ _ _ c.from_residual.ensures
    (no-folder published (g.P.Provider.sha256_of a.provider) strict a.cert.tbs _ none)

pub returns-in_err-place : goal.returns-in_err-place
returns-in_err-place g c = λ published known.
    let a = c.args.issuer.now in
    let strict = a.terms.strictness.attributes in
    let folder = rw (c.tbs-tbs.ensures, c.cert.ensures.value) at c.in_ok-folder.ensures in
    let none = rw (c.tbs-tbs.ensures, c.cert.ensures.value) at c.in_err-place.ensures in
    tried-fault _ _ _ _ c.from_residual-in_err-place.ensures
    (no-place published (g.P.Provider.sha256_of a.provider) strict a.cert.tbs c.in_ok-folder.folder
    folder.holds _ none)

pub returns-in_err-manifest : goal.returns-in_err-manifest
returns-in_err-manifest g c = λ published known.
    let a = c.args.issuer.now in
    let strict = a.terms.strictness.attributes in
    let folder = rw (c.tbs-tbs.ensures, c.cert.ensures.value) at c.in_ok-folder.ensures in
    let place = rw (c.tbs-tbs.ensures, c.cert.ensures.value) at c.in_ok-place.ensures in
    let none = rw c.strictness.ensures at (c.in_err-manifest.ensures published known) in
    tried-fault _ _ _ _ c.from_residual-in_err-manifest.ensures
    (no-manifest published (g.P.Provider.sha256_of a.provider) strict a.cert.tbs c.in_ok-folder.folder
    c.in_ok-place.place folder place _ none)

pub returns-in_err-list : goal.returns-in_err-list
returns-in_err-list g c = λ published known.
    let a = c.args.issuer.now in
    let strict = a.terms.strictness.attributes in
    let folder = rw (c.tbs-tbs.ensures, c.cert.ensures.value) at c.in_ok-folder.ensures in
    let place = rw (c.tbs-tbs.ensures, c.cert.ensures.value) at c.in_ok-place.ensures in
    let manifest = rw c.strictness.ensures at (c.in_ok-manifest.ensures published known) in
    let none = rw (c.provider.ensures, c.file_list-files.ensures.files, c.content.ensures) at
    (c.in_err-list.ensures published known) in
    tried-fault _ _ _ _ c.from_residual-in_err-list.ensures
    (no-list-there published (g.P.Provider.sha256_of a.provider) strict a.cert.tbs c.in_ok-folder.folder
    c.in_ok-place.place folder place c.in_ok-manifest.manifest manifest _ none)

pub returns : goal.returns
returns g c = λ published known.
    let a = c.args.issuer.now in
    let strict = a.terms.strictness.attributes in
    let folder = rw (c.tbs-tbs.ensures, c.cert.ensures.value) at c.in_ok-folder.ensures in
    let place = rw (c.tbs-tbs.ensures, c.cert.ensures.value) at c.in_ok-place.ensures in
    let manifest = rw c.strictness.ensures at (c.in_ok-manifest.ensures published known) in
    let list = rw (c.provider.ensures, c.file_list-files.ensures.files, c.content.ensures) at
    (c.in_ok-list.ensures published known) in
    publication-found published (g.P.Provider.sha256_of a.provider) strict a.cert.tbs c.in_ok-folder.folder
    c.in_ok-place.place folder place c.in_ok-manifest.manifest manifest c.in_ok-list.list list

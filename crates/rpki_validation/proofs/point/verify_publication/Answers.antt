use Rattle.std.proofs.Common.{◌≡◌, ◌∙◌, Bool, true, false, sym}
use Rattle.rpki_x509.proofs.TriedLaws.{tried-fault}
use Rattle.rpki_valid.specs.Verified.{verified_by}
use Rattle.rpki_validation.proofs.StepLaws.{list-refused, manifest-refused, other-list, publication-holds}
use Rattle.rpki_validation.proofs.point.verify_publication.Goals as goal

pub returns-in_err-current-clause-exactly : goal.returns-in_err-current-clause-exactly
returns-in_err-current-clause-exactly g c =
    let s = c.args.issuer.now in
    let v = verified_by g.P.Provider s in
    let refused = rw c.list.ensures at c.in_err-current.ensures.err in
    tried-fault _ _ _ _ c.from_residual.ensures
    (list-refused v c.args.at c.requires c.args.publication.now _ refused)

pub returns-in_err-process_manifest-clause-exactly : goal.returns-in_err-process_manifest-clause-exactly
returns-in_err-process_manifest-clause-exactly g c =
    let s = c.args.issuer.now in
    let v = verified_by g.P.Provider s in
    let issued = rw c.list.ensures at c.in_ok-current.ensures.issued in
    let wrong = rw (c.in_ok-current.ensures.ok, c.list.ensures, c.manifest.ensures) at
    c.in_err-process_manifest.ensures.exactly in
    tried-fault _ _ _ _ c.from_residual-in_err-process_manifest.ensures
    (manifest-refused v c.args.at c.requires c.args.publication.now issued _ wrong)

pub returns-then-branch-clause-exactly : goal.returns-then-branch-clause-exactly
returns-then-branch-clause-exactly g c =
    let s = c.args.issuer.now in
    let v = verified_by g.P.Provider s in
    let issued = rw c.list.ensures at c.in_ok-current.ensures.issued in
    let held = rw (c.in_ok-current.ensures.ok, c.list.ensures, c.manifest.ensures) at
    c.in_ok-process_manifest.ensures.exactly in
    publication-holds v c.args.at c.requires c.args.publication.now issued _ held
    (c.in_ok-names_its_list.ensures.0 c.if-branch.true)

pub returns-clause-exactly : goal.returns-clause-exactly
returns-clause-exactly g c =
    let s = c.args.issuer.now in
    let v = verified_by g.P.Provider s in
    let issued = rw c.list.ensures at c.in_ok-current.ensures.issued in
    let held = rw (c.in_ok-current.ensures.ok, c.list.ensures, c.manifest.ensures) at
    c.in_ok-process_manifest.ensures.exactly in
    other-list v c.args.at c.requires c.args.publication.now issued _ held
    (λ named. let e : ◌≡◌ {A = Bool} false true = sym c.if-branch.false ∙ c.in_ok-names_its_list.ensures.1 named in
    absurd (cc)) _ c.unverified-other.ensures

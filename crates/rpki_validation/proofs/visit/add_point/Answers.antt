use Rattle.std.proofs.Common.{◌∙◌, ℕ, List, ap, refl, subst}
use Rattle.rpki_x509.proofs.TriedLaws.{tried-fault}
use Rattle.rpki_contents.specs.ListedFile.{ListedFile}
use Rattle.rpki_contents.specs.Manifest.{ManifestParts}
use Rattle.rpki_objects.specs.TypedObject.{TypedParts}
use Rattle.rpki_validation.specs.Adding.{found}
use Rattle.rpki_validation.specs.Held.{AddsHeldFiles}
use Rattle.rpki_validation.specs.Rejecting.{AddsChildren, RejectsFiles}
use Rattle.rpki_validation.proofs.HeldLaws.{below-never, files-held, held-never}
use Rattle.rpki_validation.proofs.RejectedLaws.{children-below, files-rejected, not-at-moment, not-there, not-whole}
use Rattle.rpki_validation.proofs.HereLaws.{err-always, err-memory, tried-memory}
use Rattle.rpki_validation.proofs.VisitLaws.{point-files, sisters-of, stop-files, stop-moment, stop-publication}
use Rattle.rpki_validation.proofs.visit.add_point.Goals as goal

pub returns-in_err-publication-clause-said : goal.returns-in_err-publication-clause-said
returns-in_err-publication-clause-said g c = λ published known.
    let p = g.P.Provider in
    let old = found c.args.below.now c.args.outcome.now in
    tried-memory _ _ _ c.from_residual.ensures
    (stop-publication p published c.args.issuer.now c.args.at _ _ old
    (c.in_err-publication.ensures published known))

pub returns-in_err-list-clause-said : goal.returns-in_err-list-clause-said
returns-in_err-list-clause-said g c = λ published known.
    let p = g.P.Provider in
    let old = found c.args.below.now c.args.outcome.now in
    tried-memory _ _ _ c.from_residual-in_err-list.ensures
    (stop-moment p published c.args.issuer.now c.args.at
    c.in_ok-publication.publication (c.in_ok-publication.ensures published known) _ _ old
    c.in_err-list.ensures.exactly)

pub returns-in_err-octets-clause-said : goal.returns-in_err-octets-clause-said
returns-in_err-octets-clause-said g c = λ published known.
    let p = g.P.Provider in
    let old = found c.args.below.now c.args.outcome.now in
    let none = rw (
      c.provider.ensures,
      c.folder-folder.ensures,
      c.file_list-files.ensures.files,
      c.content.ensures,
      c.manifest.ensures,
    ) at (c.in_err-octets.ensures published known) in
    tried-memory _ _ _ c.from_residual-in_err-octets.ensures
    (stop-files p published c.args.issuer.now c.args.at
    c.in_ok-publication.publication (c.in_ok-publication.ensures published known) _ _ old none)

pub returns-clause-said : goal.returns-clause-said
returns-clause-said g c = λ published known.
    let p = g.P.Provider in
    let old = found c.args.below.now c.args.outcome.now in
    let all = rw (
      c.provider.ensures,
      c.folder-folder.ensures,
      c.file_list-files.ensures.files,
      c.content.ensures,
      c.manifest.ensures,
    ) at (c.in_ok-octets.ensures published known) in
    let said = rw (c.file_list-files.ensures.files, c.content.ensures, c.manifest.ensures) at
    c.in_ok-add_files.ensures.said in
    point-files p published c.args.issuer.now c.args.at
    c.in_ok-publication.publication (c.in_ok-publication.ensures published known) c.in_ok-list.ensures.exactly
    c.in_ok-octets.octets.items all.holds old _ c.in_ok-list.list c.in_ok-list.ensures.list said

pub returns-in_err-add_files-clause-said : goal.returns-in_err-add_files-clause-said
returns-in_err-add_files-clause-said g c = λ published known.
    tried-memory _ _ _ c.from_residual-in_err-add_files.ensures tt

pub returns-in_err-add_files-clause-sisters : goal.returns-in_err-add_files-clause-sisters
returns-in_err-add_files-clause-sisters g c = tried-memory _ _ _ c.from_residual-in_err-add_files.ensures tt

pub returns-clause-sisters : goal.returns-clause-sisters
returns-clause-sisters g c =
    sisters-of c.in_ok-list.list c.args.issuer.now c.in_ok-publication.publication.list c.args.at
    c.in_ok-list.ensures.list c.args.below.now.items _ c.in_ok-add_files.ensures.sisters

-- ---- why there is none

pub returns-in_err-publication-clause-rejected : goal.returns-in_err-publication-clause-rejected
returns-in_err-publication-clause-rejected g c = λ published known.
    let p = g.P.Provider in
    tried-fault _ _ _ _ c.from_residual.ensures
    (not-there p published c.args.issuer.now c.args.at _
    (c.in_err-publication.ensures published known))

pub returns-in_err-list-clause-rejected : goal.returns-in_err-list-clause-rejected
returns-in_err-list-clause-rejected g c = λ published known.
    let p = g.P.Provider in
    tried-fault _ _ _ _ c.from_residual-in_err-list.ensures
    (not-at-moment p published c.args.issuer.now c.args.at
    c.in_ok-publication.publication (c.in_ok-publication.ensures published known) _ c.in_err-list.ensures.exactly)

pub returns-in_err-octets-clause-rejected : goal.returns-in_err-octets-clause-rejected
returns-in_err-octets-clause-rejected g c = λ published known.
    let p = g.P.Provider in
    let issuer = c.args.issuer.now in
    let none = rw (
      c.provider.ensures,
      c.folder-folder.ensures,
      c.file_list-files.ensures.files,
      c.content.ensures,
      c.manifest.ensures,
    ) at (c.in_err-octets.ensures published known) in
    tried-fault _ _ _ _ c.from_residual-in_err-octets.ensures
    (not-whole p published issuer c.args.at
    c.in_ok-publication.publication (c.in_ok-publication.ensures published known) c.in_ok-list.ensures.exactly _ none)

pub returns-in_err-add_files-clause-rejected : goal.returns-in_err-add_files-clause-rejected
returns-in_err-add_files-clause-rejected g c = λ published known.
    tried-fault _ _ _ _ c.from_residual-in_err-add_files.ensures tt

pub returns-in_err-publication-clause-same : goal.returns-in_err-publication-clause-same
returns-in_err-publication-clause-same g c = err-always _ _ refl

pub returns-in_err-list-clause-same : goal.returns-in_err-list-clause-same
returns-in_err-list-clause-same g c = err-always _ _ refl

pub returns-in_err-octets-clause-same : goal.returns-in_err-octets-clause-same
returns-in_err-octets-clause-same g c = err-always _ _ refl

pub returns-in_err-add_files-clause-same : goal.returns-in_err-add_files-clause-same
returns-in_err-add_files-clause-same g c = err-memory _ _ _ c.from_residual-in_err-add_files.ensures tt

-- ---- what its files are rejected for

pub returns-clause-rejected : goal.returns-clause-rejected
returns-clause-rejected g c = λ published known.
    let p = g.P.Provider in
    let issuer = c.args.issuer.now in
    let point = c.in_ok-publication.publication in
    let files = c.file_list-files.ensures.files
    ∙ ap (λ (x : ManifestParts). x.files) (c.content.ensures
    ∙ ap (λ (x : TypedParts ManifestParts). x.content) c.manifest.ensures) in
    let old = c.args.outcome.now.rejections.items in
    let new = c.add_files.new.outcome.rejections.items in
    let os = c.in_ok-octets.octets.items in
    let all = rw (
      c.provider.ensures,
      c.folder-folder.ensures,
      c.file_list-files.ensures.files,
      c.content.ensures,
      c.manifest.ensures,
    ) at (c.in_ok-octets.ensures published known) in
    files-rejected p published issuer c.args.at point
    (c.in_ok-publication.ensures published known) c.in_ok-list.ensures.exactly os all.holds c.in_ok-list.list
    c.in_ok-list.ensures.list old new
    (subst (λ (fs : List ListedFile). RejectsFiles p c.in_ok-list.list
    point.folder fs os old new) files
    (subst (λ (f : List ℕ). RejectsFiles p c.in_ok-list.list f
    c.file_list-files.result.now os old new) c.folder-folder.ensures c.in_ok-add_files.ensures.rejected))

-- ---- what is below it

pub returns-clause-children : goal.returns-clause-children
returns-clause-children g c = λ published known.
    let p = g.P.Provider in
    let issuer = c.args.issuer.now in
    let point = c.in_ok-publication.publication in
    let files = c.file_list-files.ensures.files
    ∙ ap (λ (x : ManifestParts). x.files) (c.content.ensures
    ∙ ap (λ (x : TypedParts ManifestParts). x.content) c.manifest.ensures) in
    let old = c.args.below.now.items in
    let new = c.add_files.new.below.items in
    let os = c.in_ok-octets.octets.items in
    let all = rw (
      c.provider.ensures,
      c.folder-folder.ensures,
      c.file_list-files.ensures.files,
      c.content.ensures,
      c.manifest.ensures,
    ) at (c.in_ok-octets.ensures published known) in
    children-below p published issuer c.args.at point
    (c.in_ok-publication.ensures published known) c.in_ok-list.ensures.exactly os all.holds c.in_ok-list.list
    c.in_ok-list.ensures.list old new
    (subst (λ (fs : List ListedFile). AddsChildren p c.in_ok-list.list fs os old
    new) files c.in_ok-add_files.ensures.children)

pub returns-in_err-add_files-clause-children : goal.returns-in_err-add_files-clause-children
returns-in_err-add_files-clause-children g c = tried-memory _ _ _ c.from_residual-in_err-add_files.ensures tt

pub returns-in_err-publication-clause-children : goal.returns-in_err-publication-clause-children
returns-in_err-publication-clause-children g c =
    let p = g.P.Provider in
    below-never p (g.S.Snapshot.holds c.args.snapshot.now)
    c.args.issuer.now c.args.at _ c.args.below.now.items

pub returns-in_err-list-clause-children : goal.returns-in_err-list-clause-children
returns-in_err-list-clause-children g c =
    let p = g.P.Provider in
    below-never p (g.S.Snapshot.holds c.args.snapshot.now)
    c.args.issuer.now c.args.at _ c.args.below.now.items

pub returns-in_err-octets-clause-children : goal.returns-in_err-octets-clause-children
returns-in_err-octets-clause-children g c =
    let p = g.P.Provider in
    below-never p (g.S.Snapshot.holds c.args.snapshot.now)
    c.args.issuer.now c.args.at _ c.args.below.now.items

-- ---- payloads in their periods

pub returns-clause-held : goal.returns-clause-held
returns-clause-held g c = λ published known.
    let p = g.P.Provider in
    let issuer = c.args.issuer.now in
    let point = c.in_ok-publication.publication in
    let files = c.file_list-files.ensures.files
    ∙ ap (λ (x : ManifestParts). x.files) (c.content.ensures
    ∙ ap (λ (x : TypedParts ManifestParts). x.content) c.manifest.ensures) in
    let old = c.args.outcome.now in
    let new = c.add_files.new.outcome in
    let os = c.in_ok-octets.octets.items in
    let all = rw (
      c.provider.ensures,
      c.folder-folder.ensures,
      c.file_list-files.ensures.files,
      c.content.ensures,
      c.manifest.ensures,
    ) at (c.in_ok-octets.ensures published known) in
    files-held p published issuer c.args.at point
    (c.in_ok-publication.ensures published known) c.in_ok-list.ensures.exactly os all.holds c.in_ok-list.list
    c.in_ok-list.ensures.list old new
    (subst (λ (fs : List ListedFile). AddsHeldFiles p c.in_ok-list.list fs os
    old new) files c.in_ok-add_files.ensures.held)

pub returns-in_err-add_files-clause-held : goal.returns-in_err-add_files-clause-held
returns-in_err-add_files-clause-held g c = tried-memory _ _ _ c.from_residual-in_err-add_files.ensures tt

pub returns-in_err-publication-clause-held : goal.returns-in_err-publication-clause-held
returns-in_err-publication-clause-held g c =
    let p = g.P.Provider in
    held-never p (g.S.Snapshot.holds c.args.snapshot.now)
    c.args.issuer.now c.args.at _ c.args.outcome.now

pub returns-in_err-list-clause-held : goal.returns-in_err-list-clause-held
returns-in_err-list-clause-held g c =
    let p = g.P.Provider in
    held-never p (g.S.Snapshot.holds c.args.snapshot.now)
    c.args.issuer.now c.args.at _ c.args.outcome.now

pub returns-in_err-octets-clause-held : goal.returns-in_err-octets-clause-held
returns-in_err-octets-clause-held g c =
    let p = g.P.Provider in
    held-never p (g.S.Snapshot.holds c.args.snapshot.now)
    c.args.issuer.now c.args.at _ c.args.outcome.now

use Rattle.std.proofs.Common.{List, subst}
use Rattle.rpki_x509.proofs.TriedLaws.{tried-fault}
use Rattle.rpki_contents.specs.ListedFile.{ListedFile}
use Rattle.rpki_validation.proofs.FilesLaws.{IsUpTo, files-end, files-step, files-stop}
use Rattle.rpki_validation.proofs.point.files_of.Goals as goal

pub returns-in_err-octets : goal.returns-in_err-octets
returns-in_err-octets g c = λ published known.
    let sha256 = g.P.Provider.sha256_of c.args.provider.now in
    let all = c.files.all.items in
    let before = subst (λ (r : List ListedFile). IsUpTo published sha256 c.args.folder.now c.args.files.now r all)
    c.in-Some.ensures.cases.0 (c.files.invariant published known) in
    tried-fault _ _ _ _ c.from_residual.ensures
    (files-stop published sha256 c.args.folder.now c.args.files.now c.in-Some.file.now c.in-Some.following.now all
    before _ (c.in_err-octets.ensures published known))

pub files-preserved : goal.files-preserved
files-preserved g c = λ published known.
    let sha256 = g.P.Provider.sha256_of c.args.provider.now in
    let all = c.files.all.items in
    let before = subst (λ (r : List ListedFile). IsUpTo published sha256 c.args.folder.now c.args.files.now r all)
    c.in-Some.ensures.cases.0 (c.files.invariant published known) in
    rw c.in_ok-push.ensures.items
    (files-step published sha256 c.args.folder.now c.args.files.now c.in-Some.file.now c.in-Some.following.now all
    before c.in_ok-octets.octets (c.in_ok-octets.ensures published known))

pub returns : goal.returns
returns g c = λ published known.
    let sha256 = g.P.Provider.sha256_of c.args.provider.now in
    files-end published sha256 c.args.folder.now c.args.files.now c.files.rest.now c.files.all.items
    c.in_default.ensures.cases (c.files.invariant published known)

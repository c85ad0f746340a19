use Rattle.std.proofs.Common.{List, subst}
use Rattle.std.specs.Prelude.{IfSome}
use Rattle.rpki_contents.specs.ListedFile.{ListedFile}
use Rattle.rpkivalid.proofs.RefusedLaws.{SayUpTo, files-step, files-end}
use Rattle.rpkivalid.proofs.rejected_point.said_by_files.Goals as goal

pub files-preserved : goal.files-preserved
files-preserved g c =
    let holds = g.S.Sources.holds c.args.sources.now in
    let before = subst (λ (r : List ListedFile). IfSome holds (λ files. SayUpTo files c.args.folder.now
    c.args.strictness c.args.point.now c.args.files.now r c.files.all.items)) c.in-Some.ensures.cases.0
    c.files.invariant in
    rw (c.in_ok-extend_from_slice.ensures.items, c.as_slice.ensures.value)
    (files-step c.args.folder.now c.args.strictness c.args.point.now c.args.files.now holds c.in-Some.following.now
    c.in-Some.file.now c.files.all.items c.in_ok-one.one.items before
    (rw c.in_ok-uri.ensures at c.in_ok-one.ensures))

pub returns : goal.returns
returns g c =
    files-end c.args.folder.now c.args.strictness c.args.point.now c.args.files.now
    (g.S.Sources.holds c.args.sources.now) c.files.rest.now c.files.all.items c.in_default.ensures.cases
    c.files.invariant

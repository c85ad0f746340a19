use Rattle.std.proofs.lemmas.List.{get_or_default}
use Rattle.rpki_der.proofs.TriedLaws.{tried-error}
use Rattle.rpki_payloads.proofs.ExceptionLaws.{each-next}
use Rattle.rpkivalid.specs.Excepted.{IsFileIn}
use Rattle.rpkivalid.proofs.DenyingLaws.{file-denial}
use Rattle.rpkivalid.proofs.excepted.all_exceptions.Goals as goal

pub files-preserved : goal.files-preserved
files-preserved g c =
    let added = c.in_ok-push_exceptions.ensures.ok in
    rw added.added
    (each-next (λ file. IsFileIn (g.S.Sources.holds c.args.sources.now) file.now) c.args.files.now c.files.all.items
    c.files.file-index _ added.named c.files-test.true
    (get_or_default c.args.files.now c.files.file-index _ _ c.files-test.true) c.files.invariant added.is)

pub returns-in_err-push_exceptions-clause-err : goal.returns-in_err-push_exceptions-clause-err
returns-in_err-push_exceptions-clause-err g c =
    tried-error _ _ _ c.from_residual.ensures
    (file-denial (g.S.Sources.holds c.args.sources.now) c.args.files.now c.files.all.items c.files.file-index _ _
    c.files-test.true (get_or_default c.args.files.now c.files.file-index _ _ c.files-test.true) c.files.invariant
    c.in_err-push_exceptions.ensures.err)

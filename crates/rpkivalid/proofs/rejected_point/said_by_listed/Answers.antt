use Rattle.std.proofs.lemmas.Result.{IfOk-weaker}
use Rattle.rpkivalid.proofs.RefusedLaws.{listed-there}
use Rattle.rpkivalid.proofs.rejected_point.said_by_listed.Goals as goal

pub returns-in-Ok : goal.returns-in-Ok
returns-in-Ok g c =
    let said = rw (c.file_list-files.ensures.files, c.content.ensures) at c.said_by_files.ensures in
    IfOk-weaker c.said_by_files.result _ _
    (λ all h. listed-there c.args.folder.now c.args.strictness c.args.point.now c.args.octets _ c.in-Ok.ensures.0
    (g.S.Sources.holds c.args.sources.now) all.items h) said

use Rattle.rpkivalid.proofs.ProgramLaws.{made-of}
use Rattle.rpkivalid.proofs.program.ran_of.Goals as goal

pub returns : goal.returns
returns g c =
    made-of _ _ _ (g.S.Sources.holds c.args.sources.now) (g.S.Sources.clock c.args.sources.now) c.run.result
    c.run.ensures.help c.run.ensures.version c.run.ensures.run c.run.ensures.usage

use Rattle.rpkivalid.proofs.ProgramLaws.{delivered-as}
use Rattle.rpkivalid.proofs.program.delivered.Goals as goal

pub returns-clause-delivered : goal.returns-clause-delivered
returns-clause-delivered g c = λ k.
    delivered-as _ _ _ _ _ _ _ _ _ _ _ _ _ _ c.as_slice.ensures.value c.as_slice-2.ensures.value
    c.as_slice-3.ensures.value c.as_slice-4.ensures.value (c.deliver.ensures.delivered k)

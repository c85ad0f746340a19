use Rattle.std.proofs.Common.{map, string_bytes}
use Rattle.rpkivalid.proofs.ProgramLaws.{starved-on}
use Rattle.rpkivalid.proofs.program.run_spread.Goals as goal

pub returns-in-Ok-clause-run : goal.returns-in-Ok-clause-run
returns-in-Ok-clause-run g c = λ k. record {
  words = map string_bytes c.in-Ok.words.items;
  are = c.in-Ok.ensures;
  runs = rw c.as_slice.ensures.value at (c.run_to.ensures.run k);
}

pub returns-in-Err-clause-run : goal.returns-in-Err-clause-run
returns-in-Err-clause-run g c = λ k.
    starved-on _ _ _ _ _ _ _ _ _ (c.give_up.ensures.told k) c.give_up.ensures.status

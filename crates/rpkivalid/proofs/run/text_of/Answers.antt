use Rattle.std.proofs.Common.{arith}
use Rattle.rpkivalid.proofs.run.text_of.Goals as goal

pub returns-clause-written : goal.returns-clause-written
returns-clause-written g c =
    let counted = c.in_ok-vrp_count.ensures in
    let enough = c.if-branch-least.false in
    record {
      least = c.in-Some.least;
      fewest = c.in-Some.ensures.some;
      enough = grind (arith);
      made = c.in-Some-moment_at.made;
      dated = c.in-Some-moment_at.ensures.some;
      lists = c.in_ok-text.ensures;
    }

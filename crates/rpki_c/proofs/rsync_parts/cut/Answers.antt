use Rattle.std.proofs.Common.{arith}
use Rattle.rpki_c.proofs.PlaceLaws.{parts-cut}
use Rattle.rpki_c.proofs.rsync_parts.cut.Goals as goal

-- the places of parts are the text's own
pub returns-in-Some-clause-own : goal.returns-in-Some-clause-own
returns-in-Some-clause-own c = λ a. c.in-Some.ensures.own (parts-cut a)

-- what is laid out is cut
pub returns-in-None-clause-none : goal.returns-in-None-clause-none
returns-in-None-clause-none c = λ l. c.in-None.ensures.none (record {
  authority = omega (arith, l.module_name);
  module_name = omega (arith, l.path);
  path = omega (arith, l.last);
})

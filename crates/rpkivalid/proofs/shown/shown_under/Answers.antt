use Rattle.rpkivalid.proofs.RunLaws.{shown-by}
use Rattle.rpkivalid.proofs.shown.shown_under.Goals as goal

pub returns-clause-shown : goal.returns-clause-shown
returns-clause-shown g c =
    let u = c.in_ok-unchanged.ensures.unchanged in
    record {
      locators = u.locators;
      there = u.there;
      found = c.in_ok-unchanged.unchanged.found.payloads.items;
      each = u.each;
      told = u.told;
      some_is = rw c.as_slice.ensures.value at c.some_anchored-has_anchor.ensures;
      excepted = shown-by _ _ _ _ _ u.local_are c.in_ok-payloads.ensures;
    }

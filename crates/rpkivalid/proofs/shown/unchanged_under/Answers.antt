use Rattle.std.proofs.Common.{map}
use Rattle.rpkivalid.specs.LocatorsView.{named_of}
use Rattle.rpki_der.proofs.TriedLaws.{tried-error}
use Rattle.rpkivalid.specs.Denying.{OfExceptions, OfLocators}
use Rattle.rpkivalid.proofs.shown.unchanged_under.Goals as goal

pub returns-clause-unchanged : goal.returns-clause-unchanged
returns-clause-unchanged g c = record {
  locators = map named_of c.in_ok-locators.locators.items;
  there = c.in_ok-locators.ensures.ok;
  each = rw c.as_slice.ensures.value at c.in_ok-found.ensures.found;
  told = rw c.as_slice.ensures.value at c.in_ok-found.ensures.told;
  local_are = c.in_ok-local.ensures.ok;
}

pub returns-in_err-locators-clause-denied : goal.returns-in_err-locators-clause-denied
returns-in_err-locators-clause-denied g c =
    tried-error _ _ _ c.from_residual.ensures (OfLocators c.in_err-locators.ensures.err)

pub returns-in_err-local-clause-denied : goal.returns-in_err-local-clause-denied
returns-in_err-local-clause-denied g c =
    tried-error _ _ _ c.from_residual-in_err-local.ensures (OfExceptions c.in_err-local.ensures.err)

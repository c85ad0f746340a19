use Rattle.std.proofs.Common.{map}
use Rattle.rpkivalid.specs.LocatorsView.{named_of}
use Rattle.rpki_der.proofs.TriedLaws.{tried-error}
use Rattle.rpkivalid.specs.Denying.{OfLocators}
use Rattle.rpkivalid.proofs.explained.tell.Goals as goal

pub returns-clause-told : goal.returns-clause-told
returns-clause-told g c = record {
  locators = map named_of c.in_ok-locators.locators.items;
  there = c.in_ok-locators.ensures.ok;
  told = rw c.as_slice.ensures.value at c.in_ok-told.ensures.told;
}

pub returns-in_err-locators-clause-denied : goal.returns-in_err-locators-clause-denied
returns-in_err-locators-clause-denied g c =
    tried-error _ _ _ c.from_residual.ensures (OfLocators c.in_err-locators.ensures.err)

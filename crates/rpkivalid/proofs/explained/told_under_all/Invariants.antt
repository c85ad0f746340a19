use Rattle.std.proofs.Common.{length, map}
use Rattle.rpkivalid.specs.Explained.{IsToldOf}
use Rattle.rpkivalid.specs.Found.{basis_with}
use Rattle.rpkivalid.specs.LocatorsView.{named_of}
use Rattle.rpkivalid.proofs.ExplainedLaws.{IsToldUpTo}
use Rattle.rpkivalid.proofs.explained.told_under_all.Given as goal

-- this text is what is said under the locators in front of the rest
abbrev pub invariant-locators : goal.invariant-locators
invariant-locators g l =
    IsToldUpTo (IsToldOf (g.S.Sources.holds l.sources) l.folder l.strictness
    (basis_with g.P.Provider l.provider l.strictness l.at l.depth) l.question)
    (map named_of l.locators) (map named_of l.rest) l.text.items l.have_anchors

abbrev pub decreases-locators : goal.decreases-locators
decreases-locators g l = length l.rest

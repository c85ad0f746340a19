use Rattle.std.proofs.Common.{length, map}
use Rattle.rpkivalid.specs.Found.{IsFoundIn, basis_with}
use Rattle.rpkivalid.specs.LocatorsView.{named_of}
use Rattle.rpkivalid.specs.Reported.{IsReportIn}
use Rattle.rpkivalid.proofs.ExplainedLaws.{IsToldUpTo}
use Rattle.rpkivalid.proofs.FoundLaws.{IsUpTo}
use Rattle.rpkivalid.proofs.found.found_under_all.Given as goal

-- these payloads are those under the locators in front of the rest, of which this is told
abbrev pub invariant-locators : goal.invariant-locators
invariant-locators g l =
    IsUpTo (IsFoundIn (g.S.Sources.holds l.sources) l.folder
    (basis_with g.P.Provider l.provider l.strictness l.at l.depth)) (map named_of l.locators)
    (map named_of l.rest) l.payloads.items l.have_anchors
    × IsToldUpTo (IsReportIn (g.S.Sources.holds l.sources) l.folder
    (basis_with g.P.Provider l.provider l.strictness l.at l.depth))
    (map named_of l.locators) (map named_of l.rest) l.report.items l.have_anchors

abbrev pub decreases-locators : goal.decreases-locators
decreases-locators g l = length l.rest

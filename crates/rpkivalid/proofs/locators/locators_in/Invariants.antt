use Rattle.std.proofs.Common.{drop, map}
use Rattle.rpkivalid.specs.LocatorsView.{named_of}
use Rattle.rpkivalid.proofs.DenyingLaws.{AreFrom}
use Rattle.rpkivalid.proofs.LocatorLaws.{IsLocatedUpTo}
use Rattle.rpkivalid.proofs.locators.locators_in.Given as goal

-- these locators are those in the files in front, and have their names
abbrev pub invariant-loop-at : goal.invariant-loop-at
invariant-loop-at g l =
    IsLocatedUpTo (g.S.Sources.holds l.sources) (map (λ file. file.now) l.files)
    (map (λ file. file.now) (drop l.at l.files)) (map named_of l.all.items)
    × AreFrom (map (λ file. file.now) l.files) (map (λ file. file.now) (drop l.at l.files)) l.all.items

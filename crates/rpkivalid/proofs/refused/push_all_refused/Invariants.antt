use Rattle.std.proofs.Common.{◌≡◌, ◌++◌, take}
use Rattle.std.specs.List.{flat_map}
use Rattle.rpkivalid.specs.Refused.{refused_line}
use Rattle.rpkivalid.proofs.refused.push_all_refused.Given as goal

abbrev pub invariant-origins : goal.invariant-origins
invariant-origins l =
    l.text.items
    ≡ l.initial.text.items ++ flat_map (refused_line l.question l.name l.rejection) (take l.origin-index l.origins)

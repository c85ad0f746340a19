use Rattle.std.proofs.Common.{◌≡◌, take}
use Rattle.std.specs.List.{flat_map}
use Rattle.rpkivalid.specs.Told.{rejection_line}
use Rattle.rpkivalid.proofs.told.rejections_text.Given as goal

abbrev pub invariant-rejections : goal.invariant-rejections
invariant-rejections l =
    l.text.items ≡ flat_map (rejection_line l.name l.uri) (take l.rejection-index l.rejections)

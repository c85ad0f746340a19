use Rattle.std.proofs.Common.{◌≡◌, take}
use Rattle.std.specs.List.{flat_map}
use Rattle.rpkivalid.specs.Told.{listing_line}
use Rattle.rpkivalid.proofs.told.listings_text.Given as goal

abbrev pub invariant-rejections : goal.invariant-rejections
invariant-rejections l = l.text.items ≡ flat_map (listing_line l.name l.uri) (take l.rejection-index l.rejections)

use Rattle.std.proofs.Common.{◌≡◌, ◌++◌, map, length}
use Rattle.rpki_contents.specs.RouteOrigin.{origins}
use Rattle.rpki_fields.specs.ContentText.{origin_item}
use Rattle.rpki_fields.proofs.origin_text.origin_items.Given as goal

-- what is yet to come makes it whole
abbrev pub invariant-origins : goal.invariant-origins
invariant-origins l = l.items.items ++ map origin_item l.rest ≡ map origin_item (origins l.content)

abbrev pub decreases-origins : goal.decreases-origins
decreases-origins l = length l.rest

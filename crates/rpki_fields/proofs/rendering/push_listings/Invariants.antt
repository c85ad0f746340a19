use Rattle.std.proofs.Common.{◌≡◌, ◌++◌, take}
use Rattle.std.specs.List.{flat_map}
use Rattle.rpki_fields.specs.Rendering.{listing_member}
use Rattle.rpki_fields.proofs.rendering.push_listings.Given as goal

abbrev pub invariant-listings : goal.invariant-listings
invariant-listings l = l.text.items ≡ l.initial.text.items ++ flat_map listing_member (take l.listing-index l.listings)

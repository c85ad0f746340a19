use Rattle.std.proofs.Common.{◌≡◌, take, map}
use Rattle.rpki_fields.specs.ContentText.{provider_item}
use Rattle.rpki_fields.proofs.provider_text.provider_items.Given as goal

abbrev pub invariant-providers : goal.invariant-providers
invariant-providers l = l.items.items ≡ map provider_item (take l.provider-index l.providers)

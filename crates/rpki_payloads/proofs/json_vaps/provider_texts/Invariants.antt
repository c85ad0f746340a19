use Rattle.std.proofs.Common.{◌≡◌, take}
use Rattle.std.specs.List.{flat_map}
use Rattle.rpki_payloads.specs.Json.{json_provider}
use Rattle.rpki_payloads.proofs.json_vaps.provider_texts.Given as goal

abbrev pub invariant-providers : goal.invariant-providers
invariant-providers l = l.text.items ≡ flat_map json_provider (take l.provider-index l.providers)

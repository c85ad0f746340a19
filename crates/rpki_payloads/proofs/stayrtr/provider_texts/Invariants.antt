use Rattle.std.proofs.Common.{◌≡◌, take}
use Rattle.std.specs.List.{flat_map}
use Rattle.rpki_payloads.specs.StayRtr.{stay_provider}
use Rattle.rpki_payloads.proofs.stayrtr.provider_texts.Given as goal

abbrev pub invariant-providers : goal.invariant-providers
invariant-providers l = l.text.items ≡ flat_map stay_provider (take l.provider-index l.providers)

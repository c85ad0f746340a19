use Rattle.std.proofs.Common.{◌≡◌, take}
use Rattle.std.specs.List.{flat_map}
use Rattle.rpki_payloads.specs.Lines.{openbgpd_provider}
use Rattle.rpki_payloads.proofs.customers.provider_texts.Given as goal

abbrev pub invariant-providers : goal.invariant-providers
invariant-providers l = l.text.items ≡ flat_map openbgpd_provider (take l.provider-index l.providers)

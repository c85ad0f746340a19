use Rattle.std.proofs.Common.{◌≡◌, take}
use Rattle.std.specs.List.{flat_map}
use Rattle.rpki_payloads.specs.Json.{json_vrps}
use Rattle.rpki_payloads.proofs.json_form.prefix_objects.Given as goal

abbrev pub invariant-all : goal.invariant-all
invariant-all l = l.text.items ≡ flat_map json_vrps (take l.one-index l.all)

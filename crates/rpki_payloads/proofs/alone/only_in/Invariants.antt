use Rattle.std.proofs.Common.{◌≡◌, take}
use Rattle.rpki_payloads.specs.Alone.{only_in}
use Rattle.rpki_payloads.proofs.alone.only_in.Given as goal

abbrev pub invariant-vrps : goal.invariant-vrps
invariant-vrps l = l.only.items ≡ only_in (take l.vrp-index l.vrps) l.others

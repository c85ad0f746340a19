use Rattle.std.proofs.Common.{◌≡◌, map, take, string_bytes}
use Rattle.rpkicert.proofs.runs.texts_of.Given as goal

abbrev pub invariant-names : goal.invariant-names
invariant-names l = map (λ text. text.now) l.all.items ≡ map string_bytes (take l.name-index l.names)

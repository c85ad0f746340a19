use Rattle.std.proofs.Common.{take}
use Rattle.serde_json.specs.View.{view}
use Rattle.rpki_payloads.specs.Exceptions.{AreEach}
use Rattle.rpki_payloads.specs.Listed.{IsElement}
use Rattle.rpki_payloads.proofs.payload_list.elements_of.Given as goal

abbrev pub invariant-values : goal.invariant-values
invariant-values l = AreEach (λ v. IsElement (view v)) (take l.value-index l.values) l.all.items

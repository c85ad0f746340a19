use Rattle.std.proofs.Common.{List}
use Rattle.rpki.specs.Name.{Attribute, SpellsName}
use Rattle.rpki.specs.NameAttributes.{marked_attributes, rest_size}
use Rattle.rpki_fields.proofs.NameLaws.{AreWritten}
use Rattle.rpki_fields.proofs.name.name_text.Given as goal

abbrev pub invariant-attributes : goal.invariant-attributes
invariant-attributes l = (parts : List (List Attribute)) → SpellsName parts l.name
    → AreWritten (marked_attributes parts) l.rest l.text.items

abbrev pub decreases-attributes : goal.decreases-attributes
decreases-attributes l = rest_size l.rest

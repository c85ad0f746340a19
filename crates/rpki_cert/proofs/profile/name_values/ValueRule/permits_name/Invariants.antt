use Rattle.std.proofs.Common.{List}
use Rattle.rpki.specs.Name.{Attribute, SpellsName}
use Rattle.rpki.specs.NameAttributes.{marked_attributes, rest_size}
use Rattle.rpki_cert.specs.NameValues.{Permits}
use Rattle.rpki_cert.proofs.NameValueLaws.{HaveObeyed}
use Rattle.rpki_cert.proofs.profile.name_values.ValueRule.permits_name.Given as goal

abbrev pub invariant-attributes : goal.invariant-attributes
invariant-attributes l = (parts : List (List Attribute)) → SpellsName parts l.name
    → HaveObeyed (Permits l.self) (marked_attributes parts) l.rest

abbrev pub decreases-attributes : goal.decreases-attributes
decreases-attributes l = rest_size l.rest

-- A name that breaks a rule of its profile is not of the profile.
use Rattle.std.proofs.Common.{ℕ, List, subst}
use Rattle.rpki.specs.Name.{Attribute}
use Rattle.rpki.specs.NameTable.{name_table}
use Rattle.rpki.specs.StrictName.{IsStrict, attributes, IsNameOf}
use Rattle.rpki.specs.NameRule.{BreaksRule}
use Rattle.rpki.specs.declared.repository.x509.name.rule.NameRule.{NameRule}
use Rattle.rpki.proofs.NameTableLaws.{names-distinct}
use Rattle.rpki.proofs.InspectionLaws.{rule-not}
use Rattle.rpki.proofs.OneNameLaws.{one-name}

pub named-not : (S : List ℕ → Type 0) (rule : NameRule) (octets : List ℕ)
    → IsNameOf (BreaksRule name_table S rule) octets → IsNameOf (IsStrict name_table S) octets → ⊥
named-not S rule octets h g =
    rule-not name_table S rule (attributes g.0) names-distinct
    (subst (λ (p : List (List Attribute)). BreaksRule name_table S rule (attributes p))
    (one-name octets h.0 g.0 h.1 g.1) h.2) g.2

use Rattle.rpki_der.proofs.FormatLaws.{tried, given, first, last, after, all, and}
use Rattle.rpki_cert.specs.ExtensionContent.{qualifier_parts}
use Rattle.rpki_cert.proofs.extension.policy.fn.skip_qualifier.in_sequence.Goals as goal

pub returns-in_err-skip_primitive : goal.returns-in_err-skip_primitive
returns-in_err-skip_primitive c = tried (λ _. (tt, tt)) qualifier_parts _ _ c.from_residual.ensures
    (first c.in_err-skip_primitive.ensures)

pub returns-in_err-skip_statement : goal.returns-in_err-skip_statement
returns-in_err-skip_statement c =
    tried (λ _. (tt, tt)) qualifier_parts _ _ c.from_residual-in_err-skip_statement.ensures
    (after c.in_ok-skip_primitive.ensures (last c.in_err-skip_statement.ensures))

pub returns : goal.returns
returns c = given (and c.in_ok-skip_primitive.ensures (all c.in_ok-skip_statement.ensures))

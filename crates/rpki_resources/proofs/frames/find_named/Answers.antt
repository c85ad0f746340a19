use Rattle.rpki_der.specs.Cursor.{left}
use Rattle.rpki_resources.specs.declared.kind.ResourceKind.TheVariants.{Addresses}
use Rattle.rpki_resources.proofs.UnreadLaws.{is-named, no-choice, no-name}
use Rattle.rpki_resources.proofs.frames.find_named.Goals as goal

pub returns-in-Some-clause-some : goal.returns-in-Some-clause-some
returns-in-Some-clause-some c = λ f v.
    is-named (left c.args.octets) c.in-Ok.family _ c.in-Ok.ensures c.in-Some.choice
    (c.in-Some.ensures.some (Addresses c.in-Ok.family)) f v

pub returns-in-None-clause-none : goal.returns-in-None-clause-none
returns-in-None-clause-none c = no-choice (left c.args.octets) c.in-Ok.family _ c.in-Ok.ensures
    (c.in-None.ensures.none (Addresses c.in-Ok.family))

pub returns-in-Err-clause-none : goal.returns-in-Err-clause-none
returns-in-Err-clause-none c = no-name (left c.args.octets) _ c.in-Err.field-0 c.in-Err.ensures

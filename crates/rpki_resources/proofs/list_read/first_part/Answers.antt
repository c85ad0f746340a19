use Rattle.std.proofs.Common.{arith}
use Rattle.std.specs.Prelude.{◌==◌}
use Rattle.std.proofs.lemmas.List.Splits.{slice_split_first}
use Rattle.std.proofs.lemmas.Str.Pattern.{split_once_first, split_parts}
use Rattle.rpki_resources.proofs.ListReadLaws.{one-part}
use Rattle.rpki_resources.proofs.list_read.first_part.Goals as goal

pub returns-in-Some : goal.returns-in-Some
returns-in-Some c =
    let k = rw c.in-Some.is at (split_once_first 44 c.args.text.now c.split_once.result c.split_once.ensures.cases
    (omega arith)) in
    rw (k.1, k.2) (slice_split_first (λ b. b == 44) c.args.text.now 0 k.0)

pub returns-in-None : goal.returns-in-None
returns-in-None c =
    one-part c.args.text.now (rw c.in-None.is
    at (split_parts 44 c.args.text.now c.split_once.result c.split_once.ensures.cases (omega arith)))

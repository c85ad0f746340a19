use Rattle.std.proofs.lemmas.Str.{IsUtf8-from_ascii}
use Rattle.rpki_der.proofs.TextLaws.{printable-ascii}
use Rattle.rpki_der.proofs.text.printable_of.Goals as goal

pub returns-in-Err-clause-none : goal.returns-in-Err-clause-none
returns-in-Err-clause-none c =
    λ text h. absurd (c.in-Err.ensures.cases.0
    (IsUtf8-from_ascii c.args.contents.now (printable-ascii c.args.contents.now h.1)))

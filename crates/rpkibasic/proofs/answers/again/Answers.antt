use Rattle.rpkibasic.proofs.AnswerLaws.{again-of}
use Rattle.rpkibasic.proofs.answers.again.Goals as goal

pub returns : goal.returns
returns c = again-of c.args.input.items c.in_ok-found.found c.written.result c.in_ok-found.ensures c.written.ensures

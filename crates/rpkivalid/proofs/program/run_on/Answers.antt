use Rattle.std.proofs.Common.{Err, refl}
use Rattle.std.specs.IoError.{error_kind}
use Rattle.std.specs.Vec.Iter.{into_iter_items}
use Rattle.rpkivalid.specs.Arguments.{wordless_of}
use Rattle.rpkivalid.proofs.ProgramLaws.{no-fault, no-memory, of-words, told-fault}
use Rattle.rpkivalid.proofs.program.run_on.Goals as goal

pub returns-in-Ok-clause-words : goal.returns-in-Ok-clause-words
returns-in-Ok-clause-words g c = λ k.
    of-words _ _ _ _ _ _ _ _ c.args.arguments into_iter_items c.in-Ok.words.items c.in-Ok.ensures.words
    (rw c.as_slice.ensures.value at (c.run_spread.ensures.run k))

pub returns-in-Ok-clause-none : goal.returns-in-Ok-clause-none
returns-in-Ok-clause-none g c = λ k.
    no-fault c.args.arguments c.in-Ok.words (λ e. wordless_of (error_kind e)) _ c.in-Ok.ensures.none

pub returns-in-Err-clause-words : goal.returns-in-Err-clause-words
returns-in-Err-clause-words g c = λ k.
    no-memory _ _ _ _ _ _ _ _ c.args.arguments into_iter_items c.in-Err.wordless c.in-Err.ensures.memory
    (c.say.ensures.told k) c.say.ensures.status

pub returns-in-Err-clause-none : goal.returns-in-Err-clause-none
returns-in-Err-clause-none g c = λ k.
    told-fault c.args.arguments (Err c.in-Err.wordless) c.in-Err.wordless (λ e. wordless_of (error_kind e)) _ _ _ refl
    c.in-Err.ensures.none (c.say.ensures.told k) c.say.ensures.status

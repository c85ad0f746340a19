use Rattle.rpkibasic.specs.Fault.{text_of, number_text}
use Rattle.rpkibasic.proofs.CutLaws.{cut-then}
use Rattle.rpkibasic.proofs.fault.tell.Goals as goal

pub returns-in-Refused : goal.returns-in-Refused
returns-in-Refused g c =
    let first = rw c.text_of.ensures at c.in_ok-write_whole.ensures in
    let second = rw c.number.ensures at c.write_whole-in-Refused.ensures in
    cut-then _ _ _ c.write_whole-in-Refused.result (text_of c.args.fault) (number_text c.args.fault) first
    (rw c.in-Refused.is second)

pub returns-in-RefusedUri : goal.returns-in-RefusedUri
returns-in-RefusedUri g c =
    let first = rw c.text_of.ensures at c.in_ok-write_whole.ensures in
    let second = rw c.number-in-RefusedUri.ensures at c.write_whole-in-RefusedUri.ensures in
    cut-then _ _ _ c.write_whole-in-RefusedUri.result (text_of c.args.fault) (number_text c.args.fault) first
    (rw c.in-RefusedUri.is second)

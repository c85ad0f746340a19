use Rattle.std.proofs.Common.{◌∙◌, sym}
use Rattle.rpkivalid.proofs.ComplaintLaws.{given-value}
use Rattle.rpkivalid.proofs.complaint.wrong_given.Goals as goal

pub returns-then-takes_value : goal.returns-then-takes_value
returns-then-takes_value c =
    (rw c.after.ensures at c.wrong_value.ensures)
    ∙ given-value c.args.option.now c.args.word.now (sym c.takes_value.ensures ∙ c.if-takes_value.true)

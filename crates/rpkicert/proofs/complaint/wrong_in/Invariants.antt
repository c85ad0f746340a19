use Rattle.std.proofs.Common.{◌≡◌, [], take, drop}
use Rattle.rpkicert.specs.Complaint.{wrong_behind}
use Rattle.rpkicert.specs.ComplaintView.{texts_of}
use Rattle.rpkicert.proofs.complaint.wrong_in.Given as goal

-- nothing is wrong with the words in front
abbrev pub invariant-loop-at : goal.invariant-loop-at
invariant-loop-at l =
    wrong_behind (texts_of (take l.at l.words)) (texts_of (drop l.at l.words)) ≡ wrong_behind [] (texts_of l.words)

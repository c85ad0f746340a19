use Rattle.std.proofs.Common.{◌≡◌, false, [], take, drop}
use Rattle.rpkivalid.specs.Complaint.{wrong_behind}
use Rattle.rpkivalid.specs.ComplaintView.{texts_of}
use Rattle.rpkivalid.proofs.complaint.wrong_in.Given as goal

-- nothing is wrong with the words in front
abbrev pub invariant-loop-at : goal.invariant-loop-at
invariant-loop-at l =
    wrong_behind (texts_of (take l.at l.words)) l.in_files (texts_of (drop l.at l.words))
    ≡ wrong_behind [] false (texts_of l.words)

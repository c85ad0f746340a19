use Rattle.std.proofs.Common.{arith, lit<}
use Rattle.rpki_issue.proofs.ContentsLaws.{purposes-spelled, purpose-few}
use Rattle.rpki_issue.proofs.contents.encode_purposes.Goals as goal

pub returns-clause-short : goal.returns-clause-short
returns-clause-short c =
    rw c.new.ensures (c.encode.ensures.short.1 (lit< tt), rw c.encode.ensures.encoded (omega (arith, purpose-few)))

pub returns-clause-read_back : goal.returns-clause-read_back
returns-clause-read_back c = purposes-spelled

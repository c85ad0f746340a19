use Rattle.rpki_contents.proofs.encode.encode_listing.Goals as goal

pub returns-clause-short : goal.returns-clause-short
returns-clause-short c = λ few. rw c.new.ensures (c.encode_oid-algorithm.ensures.short, (c.requires, few))

pub returns-clause-algorithm : goal.returns-clause-algorithm
returns-clause-algorithm c = c.encode_oid-algorithm.ensures.read_back

use Rattle.std.proofs.Common.{arith, sym}
use Rattle.rpki_der.proofs.HeaderSizeLaws.{length-1, length-2, length-3, length-4, length-5}
use Rattle.rpki_der.proofs.kind.length_len.Goals as goal

pub returns-then-contents_len-lt128-clause-size : goal.returns-then-contents_len-lt128-clause-size
returns-then-contents_len-lt128-clause-size c = sym (length-1 c.args.contents_len (omega arith))

pub returns-then-contents_len-lt256-clause-size : goal.returns-then-contents_len-lt256-clause-size
returns-then-contents_len-lt256-clause-size c = sym (length-2 c.args.contents_len (omega arith) (omega arith))

pub returns-then-contents_len-clause-size : goal.returns-then-contents_len-clause-size
returns-then-contents_len-clause-size c = sym (length-3 c.args.contents_len (omega arith) (omega arith))

pub returns-then-contents_len-2-clause-size : goal.returns-then-contents_len-2-clause-size
returns-then-contents_len-2-clause-size c = sym (length-4 c.args.contents_len (omega arith) (omega arith))

pub returns-else-contents_len-2-clause-size : goal.returns-else-contents_len-2-clause-size
returns-else-contents_len-2-clause-size c = sym (length-5 c.args.contents_len (omega arith) (omega arith))

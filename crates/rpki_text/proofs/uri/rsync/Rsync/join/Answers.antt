use Rattle.rpki_text.proofs.JoinLaws.{cut-joined-any, relative-joined-any}
use Rattle.rpki_text.proofs.MeaningLaws.{joined-meaning, joined-begins}
use Rattle.rpki_text.proofs.uri.rsync.Rsync.join.Goals as goal

pub invariant_of-result : goal.invariant_of-result
invariant_of-result c =
    let d = cut-joined-any c.self.inside.bytes _ _ c.self.invariant c.args.path.now
    (rw (c.self.view_is) c.in_ok-bytes.ensures.ok) in
    rw (c.in_ok-bytes.ensures.text, ← c.self.view_is) d

pub returns-clause-meaning : goal.returns-clause-meaning
returns-clause-meaning c =
    rw (c.in_ok-bytes.ensures.text, ← c.self.view_is)
    (joined-meaning c.self.inside.bytes _ _ c.self.invariant c.args.path.now
    (rw (c.self.view_is) c.in_ok-bytes.ensures.ok))

pub returns-clause-begins : goal.returns-clause-begins
returns-clause-begins c = rw c.in_ok-bytes.ensures.text (joined-begins c.args.self.now c.args.path.now)

pub returns-clause-back : goal.returns-clause-back
returns-clause-back c =
    rw (c.in_ok-bytes.ensures.text, ← c.self.view_is)
    (relative-joined-any c.self.inside.bytes _ _ c.self.invariant c.args.path.now
    (rw (c.self.view_is) c.in_ok-bytes.ensures.ok))

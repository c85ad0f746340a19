use Rattle.std.proofs.Common.{refl}
use Rattle.rpki_cert.proofs.TableLaws.{slot-known}
use Rattle.rpki_cert.proofs.extension.kind.is_understood_in.Goals as goal

pub returns-then-not-critical : goal.returns-then-not-critical
returns-then-not-critical c = λ id h. rw c.if-not-critical.true refl

pub returns-else-not-critical : goal.returns-else-not-critical
returns-else-not-critical c = λ id h. rw c.if-not-critical.false (slot-known id c.args.slot h)

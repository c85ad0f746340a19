use Rattle.rpki_text.specs.RsyncText.{uri_of}
use Rattle.rpki_text.proofs.MeaningLaws.{parent-irreflexive, parent-transitive}
use Rattle.rpki_text.proofs.uri.rsync.Rsync.is_parent_of.Goals as goal

pub returns-clause-irreflexive : goal.returns-clause-irreflexive
returns-clause-irreflexive c = parent-irreflexive (uri_of c.args.self.now)

pub returns-clause-transitive : goal.returns-clause-transitive
returns-clause-transitive c w = parent-transitive (uri_of c.args.self.now) (uri_of c.args.other.now) w

use Rattle.rpki_text.proofs.OwnLaws.{own-starts}
use Rattle.rpki_text.proofs.uri.rsync_cut.RsyncCut.of.Goals as goal

pub invariant_of-result : goal.invariant_of-result
invariant_of-result c = record { laid_out = own-starts _ _ _ c.requires }

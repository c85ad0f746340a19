use Rattle.std.proofs.Common.{sym}
use Rattle.rpki_text.proofs.ModuleLaws.{module-is}
use Rattle.rpki_text.proofs.uri.rsync_cut.RsyncCut.module.Goals as goal

pub returns : goal.returns
returns c own = sym (module-is _ _ _ own)

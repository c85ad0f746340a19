use Rattle.rpki_text.proofs.OwnLaws.{own-dir}
use Rattle.rpki_text.proofs.uri.rsync_cut.RsyncCut.as_dir.Goals as goal

pub returns : goal.returns
returns c a = rw (c.new.ensures, c.path_is_dir.ensures) (own-dir c.args.self.now a)

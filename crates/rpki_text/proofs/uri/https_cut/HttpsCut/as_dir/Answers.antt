use Rattle.rpki_text.proofs.OwnLaws.{own-https-dir}
use Rattle.rpki_text.proofs.uri.https_cut.HttpsCut.as_dir.Goals as goal

pub returns : goal.returns
returns c a = rw (c.new.ensures, c.path_is_dir.ensures) (own-https-dir c.args.self.now a)

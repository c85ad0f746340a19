use Rattle.std.proofs.Common.{ap, ◌∙◌}
use Rattle.rpki_text.specs.Segments.{is_dir}
use Rattle.rpki_text.proofs.OwnLaws.{own-path}
use Rattle.rpki_text.proofs.uri.rsync_view.RsyncView.path_is_dir.Goals as goal

pub returns : goal.returns
returns c = c.path_is_dir.ensures ∙ ap is_dir (own-path c.args.self.now.cut c.args.self.now.own)

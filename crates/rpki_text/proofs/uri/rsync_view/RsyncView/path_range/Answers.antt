use Rattle.rpki_text.proofs.PlaceLaws.{path-at}
use Rattle.rpki_text.proofs.uri.rsync_view.RsyncView.path_range.Goals as goal

pub returns-clause-path : goal.returns-clause-path
returns-clause-path c = path-at _ _ _ c.args.self.now.own

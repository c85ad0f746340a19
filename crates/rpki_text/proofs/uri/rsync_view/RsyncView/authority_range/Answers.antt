use Rattle.rpki_text.proofs.PlaceLaws.{authority-at}
use Rattle.rpki_text.proofs.uri.rsync_view.RsyncView.authority_range.Goals as goal

pub returns-clause-part : goal.returns-clause-part
returns-clause-part c = authority-at _ _ _ c.args.self.now.own

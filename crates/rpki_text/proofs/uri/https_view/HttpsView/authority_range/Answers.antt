use Rattle.rpki_text.proofs.PlaceLaws.{https_authority-at}
use Rattle.rpki_text.proofs.uri.https_view.HttpsView.authority_range.Goals as goal

pub returns-clause-part : goal.returns-clause-part
returns-clause-part c = https_authority-at _ _ c.args.self.now.own

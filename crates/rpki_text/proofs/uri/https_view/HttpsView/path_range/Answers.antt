use Rattle.rpki_text.proofs.PlaceLaws.{https_path-at}
use Rattle.rpki_text.proofs.uri.https_view.HttpsView.path_range.Goals as goal

pub returns-clause-path : goal.returns-clause-path
returns-clause-path c = https_path-at _ _ c.args.self.now.own

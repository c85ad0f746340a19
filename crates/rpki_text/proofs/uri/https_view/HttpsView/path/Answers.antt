use Rattle.std.proofs.Common.{◌∙◌}
use Rattle.rpki_text.specs.UriText.{is_uri_byte}
use Rattle.rpki_text.proofs.CutLaws.{list-all-drop}
use Rattle.rpki_text.proofs.HttpsPartLaws.{https-form}
use Rattle.rpki_text.proofs.OwnLaws.{own-https-path}
use Rattle.rpki_text.proofs.uri.https_view.HttpsView.path.Goals as goal

pub uri_text-requires : goal.uri_text-requires
uri_text-requires c =
    let f = https-form _ c.args.self.now.own.passes in
    rw c.path.ensures (list-all-drop is_uri_byte _ _ f.characters)

pub returns : goal.returns
returns c = c.uri_text.ensures ∙ c.path.ensures ∙ own-https-path c.args.self.now.cut c.args.self.now.own

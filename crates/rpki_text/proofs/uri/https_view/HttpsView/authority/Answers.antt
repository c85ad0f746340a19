use Rattle.std.proofs.Common.{◌∙◌}
use Rattle.rpki_text.proofs.HttpsPartLaws.{https-form}
use Rattle.rpki_text.proofs.PlaceLaws.{range-passes}
use Rattle.rpki_text.proofs.OwnLaws.{own-https-authority}
use Rattle.rpki_text.proofs.uri.https_view.HttpsView.authority.Goals as goal

pub uri_text-requires : goal.uri_text-requires
uri_text-requires c =
    let f = https-form _ c.args.self.now.own.passes in rw c.authority.ensures (range-passes _ _ _ f.characters)

pub returns : goal.returns
returns c = c.uri_text.ensures ∙ c.authority.ensures ∙ own-https-authority c.args.self.now.cut c.args.self.now.own

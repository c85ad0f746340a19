use Rattle.std.proofs.Common.{ap, ◌∙◌, refl}
use Rattle.rpki_text.specs.HttpsText.{https_authority}
use Rattle.rpki_text.proofs.OwnLaws.{own-https-authority}
use Rattle.rpki_text.proofs.uri.https.Https.eq_authority.Goals as goal

pub returns : goal.returns
returns c =
    let mine = own-https-authority c.cut.result c.cut.ensures.own ∙ ap https_authority c.cut.ensures.text in
    let theirs = own-https-authority c.cut-2.result c.cut-2.ensures.own ∙ ap https_authority c.cut-2.ensures.text in
    c.has_authority_of.ensures ∙ rw (mine, theirs) refl

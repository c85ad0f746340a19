use Rattle.rpki_text.proofs.HttpsPartLaws.{https-form}
use Rattle.rpki_text.proofs.uri.https_view.HttpsView.as_str.Goals as goal

pub uri_text-requires : goal.uri_text-requires
uri_text-requires c =
    let f = https-form _ c.as_slice.ensures.parses_again in rw c.as_slice.ensures.text f.characters

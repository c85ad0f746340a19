use Rattle.rpki_text.proofs.HttpsPartLaws.{https_form}
use Rattle.rpki_text.proofs.uri.https.Https.as_str.Goals as goal

pub uri_text-requires : goal.uri_text-requires
uri_text-requires c = let f = https_form _ c.as_slice.ensures.parses_again in rw c.as_slice.ensures.text f.characters

use Rattle.std.proofs.Common.{ap, ◌∙◌}
use Rattle.rpki_text.specs.Segments.{is_dir}
use Rattle.rpki_text.specs.HttpsText.{https_path}
use Rattle.rpki_text.proofs.OwnLaws.{own-https-path}
use Rattle.rpki_text.proofs.uri.https.Https.path_is_dir.Goals as goal

pub returns : goal.returns
returns c =
    c.path_is_dir.ensures ∙ ap is_dir (own-https-path c.cut.result c.cut.ensures.own)
    ∙ ap (λ t. is_dir (https_path t)) c.cut.ensures.text

use Rattle.std.proofs.Common.{ap, ◌∙◌}
use Rattle.rpki_text.specs.Segments.{is_dir}
use Rattle.rpki_text.specs.RsyncText.{path_of}
use Rattle.rpki_text.proofs.OwnLaws.{own-path}
use Rattle.rpki_text.proofs.uri.rsync.Rsync.path_is_dir.Goals as goal

pub returns : goal.returns
returns c =
    c.path_is_dir.ensures ∙ ap is_dir (own-path c.cut.result c.cut.ensures.own)
    ∙ ap (λ t. is_dir (path_of t)) c.cut.ensures.text

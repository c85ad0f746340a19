use Rattle.std.proofs.Common.{ap, ◌∙◌}
use Rattle.rpki_text.specs.RsyncText.{path_of}
use Rattle.rpki_text.proofs.OwnLaws.{own-path}
use Rattle.rpki_text.proofs.uri.rsync.Rsync.path_bytes.Goals as goal

pub returns : goal.returns
returns c = c.path.ensures ∙ own-path c.cut.result c.cut.ensures.own ∙ ap path_of c.cut.ensures.text

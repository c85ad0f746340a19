use Rattle.std.proofs.Common.{◌∙◌}
use Rattle.rpki_text.specs.UriText.{is_uri_byte}
use Rattle.rpki_text.proofs.CutLaws.{list-all-drop}
use Rattle.rpki_text.proofs.OwnLaws.{own-path}
use Rattle.rpki_text.proofs.uri.rsync_view.RsyncView.path.Goals as goal

pub uri_text-requires : goal.uri_text-requires
uri_text-requires c = rw c.path.ensures (list-all-drop is_uri_byte _ _ c.args.self.now.own.form.characters)

pub returns : goal.returns
returns c = c.uri_text.ensures ∙ c.path.ensures ∙ own-path c.args.self.now.cut c.args.self.now.own

use Rattle.std.proofs.Common.{◌∙◌}
use Rattle.rpki_text.proofs.PlaceLaws.{range-passes}
use Rattle.rpki_text.proofs.OwnLaws.{own-module_name}
use Rattle.rpki_text.proofs.uri.rsync_view.RsyncView.module_name.Goals as goal

pub uri_text-requires : goal.uri_text-requires
uri_text-requires c = rw c.module_name.ensures (range-passes _ _ _ c.args.self.now.own.form.characters)

pub returns : goal.returns
returns c = c.uri_text.ensures ∙ c.module_name.ensures ∙ own-module_name c.args.self.now.cut c.args.self.now.own

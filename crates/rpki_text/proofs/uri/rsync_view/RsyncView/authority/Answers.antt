use Rattle.std.proofs.Common.{◌∙◌}
use Rattle.rpki_text.proofs.PlaceLaws.{range-passes}
use Rattle.rpki_text.proofs.OwnLaws.{own-authority}
use Rattle.rpki_text.proofs.uri.rsync_view.RsyncView.authority.Goals as goal

pub uri_text-requires : goal.uri_text-requires
uri_text-requires c = rw c.authority.ensures (range-passes _ _ _ c.args.self.now.own.form.characters)

pub returns : goal.returns
returns c = c.uri_text.ensures ∙ c.authority.ensures ∙ own-authority c.args.self.now.cut c.args.self.now.own

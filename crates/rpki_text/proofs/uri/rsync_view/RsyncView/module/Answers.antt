use Rattle.rpki_text.specs.UriText.{is_uri_byte}
use Rattle.rpki_text.proofs.CutLaws.{list-all-take}
use Rattle.rpki_text.proofs.ModuleLaws.{module-is}
use Rattle.rpki_text.proofs.uri.rsync_view.RsyncView.module.Goals as goal

pub uri_text-requires : goal.uri_text-requires
uri_text-requires c =
    let own = c.args.self.now.own in
    rw (c.module.ensures own, module-is _ _ _ own) (list-all-take is_uri_byte _ _ own.form.characters)

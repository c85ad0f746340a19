use Rattle.rpki_text.proofs.PlaceLaws.{module_name-at, module_name-first}
use Rattle.rpki_text.proofs.uri.rsync_view.RsyncView.module_name_range.Goals as goal

pub returns-clause-part : goal.returns-clause-part
returns-clause-part c = module_name-at _ _ _ c.args.self.now.own

pub returns-clause-first : goal.returns-clause-first
returns-clause-first c = module_name-first _ _ _ c.args.self.now.own

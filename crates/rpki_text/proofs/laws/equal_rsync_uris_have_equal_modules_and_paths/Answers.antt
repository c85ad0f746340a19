use Rattle.rpki_text.proofs.EqualLaws.{equal-module_and_path}
use Rattle.rpki_text.proofs.laws.equal_rsync_uris_have_equal_modules_and_paths.Goals as goal

pub returns : goal.returns
returns c = equal-module_and_path

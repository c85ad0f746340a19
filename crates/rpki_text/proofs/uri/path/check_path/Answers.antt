use Rattle.std.proofs.Common.{rules}
use Rattle.rpki_text.specs.RsyncText.{path_refusal}
use Rattle.rpki_text.proofs.uri.path.check_path.Goals as goal

pub returns-then-path-ge-LEN_LIMIT : goal.returns-then-path-ge-LEN_LIMIT
unfolding path_refusal
returns-then-path-ge-LEN_LIMIT c = search rules

pub loop-piece-init : goal.loop-piece-init
unfolding path_refusal
loop-piece-init c = search rules

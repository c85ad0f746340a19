use Rattle.std.proofs.Common.{◌≡◌}
use Rattle.rpki_text.specs.Segments.{segments}
use Rattle.rpki_text.specs.RsyncText.{names_refusal, path_refusal}
use Rattle.rpki_text.proofs.uri.path.check_path.Given as goal

abbrev pub invariant-loop-piece : goal.invariant-loop-piece
invariant-loop-piece l = path_refusal l.path ≡ names_refusal (segments l.piece-iterator.rest.now)

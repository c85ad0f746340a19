use Rattle.std.proofs.Common.{◌≡◌, length}
use Rattle.rpki_text.specs.Segments.{segments}
use Rattle.rpki_text.specs.RsyncText.{names_refusal}
use Rattle.rpki_text.proofs.uri.path.after_ordinary.Given as goal

abbrev pub invariant-loop-rest : goal.invariant-loop-rest
invariant-loop-rest l = names_refusal (segments l.path) ≡ names_refusal (segments l.rest)

abbrev pub decreases-loop-rest : goal.decreases-loop-rest
decreases-loop-rest l = length l.rest

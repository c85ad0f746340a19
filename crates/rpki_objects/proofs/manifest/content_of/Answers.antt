use Rattle.std.proofs.Common.{rules}
use Rattle.rpki_der.proofs.InsideLaws.{read-whole}
use Rattle.rpki_contents.specs.Manifest.{manifest}
use Rattle.rpki_objects.proofs.manifest.content_of.Goals as goal

pub returns : goal.returns
returns c =
    read-whole (λ x. x) manifest.spells manifest.fault _ (λ b a x h. search rules) _ _
    (rw c.new.ensures at c.whole_with.ensures)

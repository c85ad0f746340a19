use Rattle.std.proofs.Common.{refl, inr}
use Rattle.rpki_c.proofs.PlaceLaws.{parts-cut, lower-canonical}
use Rattle.rpki_c.proofs.rsync_parts.rpki_rsync_parts_canonical.Goals as goal

pub returns : goal.returns
returns c =
    let laid = c.if-not-are_laid_out.ensures.0 refl in
    inr (laid, λ a. rw (lower-canonical (parts-cut a)) at c.store_lower.ensures)

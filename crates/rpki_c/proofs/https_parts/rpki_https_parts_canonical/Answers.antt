use Rattle.std.proofs.Common.{refl, inr}
use Rattle.rpki_c.proofs.PlaceLaws.{https-cut, https-lower-canonical}
use Rattle.rpki_c.proofs.https_parts.rpki_https_parts_canonical.Goals as goal

pub returns : goal.returns
returns c =
    let laid = c.if-not-are_laid_out.ensures.0 refl in
    inr (laid, λ a. rw (https-lower-canonical (https-cut laid a)) at c.store_lower.ensures)

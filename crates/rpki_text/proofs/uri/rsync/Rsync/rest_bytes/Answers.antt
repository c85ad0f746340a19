use Rattle.rpki_text.proofs.LawLaws.{halves}
use Rattle.rpki_text.proofs.uri.rsync.Rsync.rest_bytes.Goals as goal

pub split_at-requires : goal.split_at-requires
split_at-requires c = let h = halves _ _ _ c.self.invariant in rw (c.as_slice.ensures) h.within

pub returns : goal.returns
returns c =
    let h = halves _ _ _ c.self.invariant in rw (c.split_at.ensures.back, c.as_slice.ensures, ← c.self.view_is) h.back

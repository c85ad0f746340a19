use Rattle.rpki_text.proofs.LawLaws.{halves}
use Rattle.rpki_text.proofs.ModuleLaws.{module-passes, module-halves}
use Rattle.rpki_text.proofs.uri.rsync.Rsync.site.Goals as goal

pub split_at-requires : goal.split_at-requires
split_at-requires c = let h = halves _ _ _ c.self.invariant in rw (c.as_slice.ensures) h.within

pub returns-clause-lower : goal.returns-clause-lower
returns-clause-lower c = let h = halves _ _ _ c.self.invariant in rw
    (c.split_at.ensures.front, c.as_slice.ensures, ← c.self.view_is) h.front

pub returns-clause-module : goal.returns-clause-module
returns-clause-module c =
    rw (c.split_at.ensures.front, c.as_slice.ensures, ← c.self.view_is) (module-halves _ _ _ c.self.invariant)

pub returns-clause-characters : goal.returns-clause-characters
returns-clause-characters c = rw (c.split_at.ensures.front, c.as_slice.ensures)
    (module-passes _ _ _ c.self.invariant c.self.inside.places.module_start)

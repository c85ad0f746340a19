use Rattle.std.proofs.Common.{List, ℕ, not, subst}
use Rattle.std.specs.Prelude.{Vec}
use Rattle.std.specs.declared.alloc.Global.{Global}
use Rattle.rpki_validation.specs.Waiting.{Entry, IsFirstWaiting, entries_of}
use Rattle.rpki_validation.proofs.WaitingLaws.{first-waiting}
use Rattle.rpki_validation.proofs.waiting.Waiting.take_first.Goals as goal

abbrev numbers : Vec ℕ Global → List ℕ
numbers v = v.items

pub returns-in-Some-clause-some : goal.returns-in-Some-clause-some
returns-in-Some-clause-some g c =
    let new = entries_of numbers c.pop_first.new.self in
    subst (λ (old : List (Entry g.row.P.Denot)). IsFirstWaiting (not c.in-Some.is_other) c.in-Some.authority old new)
    c.self.view_is
    (first-waiting numbers c.self.inside.all c.pop_first.new.self _ c.in-Some.authority c.in-Some.ensures.removal
    c.in-Some.ensures.all_above)

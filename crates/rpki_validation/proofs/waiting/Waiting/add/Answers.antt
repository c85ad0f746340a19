use Rattle.std.proofs.Common.{List, ℕ, subst}
use Rattle.std.specs.Prelude.{Vec}
use Rattle.std.specs.declared.alloc.Global.{Global}
use Rattle.rpki_validation.specs.Waiting.{AddsWaiting, Entry, entries_of}
use Rattle.rpki_validation.proofs.WaitingLaws.{adds-waiting}
use Rattle.rpki_validation.proofs.waiting.Waiting.add.Goals as goal

abbrev numbers : Vec ℕ Global → List ℕ
numbers v = v.items

pub returns : goal.returns
returns g c =
    let new = entries_of numbers c.insert.new.self in
    subst (λ (old : List (Entry g.row.P.Denot)). AddsWaiting c.args.is_named c.args.authority old new) c.self.view_is
    (adds-waiting numbers c.self.inside.all c.insert.new.self c.args.is_named c.depth.result c.in_ok-mark.mark
    c.args.authority c.depth.ensures c.in_ok-mark.ensures.mark c.in_ok-_alike.ensures.entries)

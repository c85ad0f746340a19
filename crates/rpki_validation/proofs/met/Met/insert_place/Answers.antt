use Rattle.std.proofs.Common.{List, ℕ, subst}
use Rattle.std.specs.Prelude.{Vec}
use Rattle.std.specs.declared.alloc.Global.{Global}
use Rattle.rpki_validation.specs.Basis.{holder_of}
use Rattle.rpki_validation.specs.Met.{InsertsPlaceOf, Mark, mark_in, marks_of}
use Rattle.rpki_validation.proofs.MetLaws.{inserts}
use Rattle.rpki_validation.proofs.met.Met.insert_place.Goals as goal

abbrev numbers : Vec ℕ Global → List ℕ
numbers v = v.items

pub returns : goal.returns
returns g c =
    let new = marks_of numbers c.insert.new.self in
    let is_new = c.in_ok-is_new.is_new in
    let k = c.in_ok-mark.mark in
    subst (λ (old : List Mark). InsertsPlaceOf old new (holder_of c.args.authority.now) is_new) c.self.view_is (
      mark_in numbers k,
      c.in_ok-mark.ensures,
      inserts numbers c.self.inside.marks c.insert.new.self k is_new
          c.in_ok-is_new.ensures.keys c.in_ok-is_new.ensures.unchanged c.in_ok-is_new.ensures.added,
    )

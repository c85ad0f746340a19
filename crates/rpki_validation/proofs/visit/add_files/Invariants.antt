use Rattle.std.proofs.Common.{◌≡◌, length}
use Rattle.std.specs.Vec.Iter.{into_iter_items, into_iter_len}
use Rattle.rpki_validation.specs.Adding.{found}
use Rattle.rpki_validation.specs.Sisters.{AreSistersBelow}
use Rattle.rpki_validation.specs.Rejecting.{IsChildOf, IsNotedHere, IsRightHere}
use Rattle.rpki_validation.proofs.AddingLaws.{AreLeft}
use Rattle.rpki_validation.proofs.HeldLaws.{HeldUpTo}
use Rattle.rpki_validation.proofs.NotingLaws.{AddsUpTo, NotesUpTo}
use Rattle.rpki_validation.proofs.visit.add_files.Given as goal

-- of what all files say, what the rest say is still to be added
abbrev pub invariant-octets : goal.invariant-octets
invariant-octets g l =
    let p = g.P.Provider in
    record {
      next : (goal.iterator-octets g).can_next l.one-iterator;
      ends : (goal.iterator-octets g).is_finite l.one-iterator;
      count : into_iter_len l.one-iterator ≡ length (into_iter_items l.one-iterator);
      sisters : AreSistersBelow l.list.issuer l.list.at l.fn.below.items l.below.items;
      said : AreLeft p l.list l.fn.files l.rest l.fn.octets.items
          (into_iter_items l.one-iterator) (found l.fn.below l.fn.outcome) (found l.below l.outcome);
      children : AddsUpTo (IsChildOf p l.list) l.fn.files l.rest
          l.fn.octets.items (into_iter_items l.one-iterator) l.fn.below.items l.below.items;
      held : HeldUpTo p l.list l.fn.files l.fn.octets.items l.rest
          (into_iter_items l.one-iterator) l.fn.outcome l.outcome;
      rejected : NotesUpTo (IsRightHere p l.list)
          (IsNotedHere p l.list l.folder) l.fn.files l.rest
          l.fn.octets.items (into_iter_items l.one-iterator) l.fn.outcome.rejections.items
          l.outcome.rejections.items;
    }

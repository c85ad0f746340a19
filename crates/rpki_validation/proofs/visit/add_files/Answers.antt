use Rattle.std.proofs.Common.{List, ℕ, arith, ap, length, subst, sym}
use Rattle.std.specs.Vec.Iter.{into_iter_items}
use Rattle.rpki_validation.specs.Adding.{found}
use Rattle.rpki_validation.proofs.AddingLaws.{AreLeft, files-end, files-start, files-step, octets-end, sisters-none}
use Rattle.rpki_validation.proofs.AddingLaws.{sisters-then}
use Rattle.rpki_validation.specs.Rejecting.{IsChildOf, IsNotedHere, IsRightHere}
use Rattle.rpki_validation.proofs.HeldLaws.{HeldUpTo, held-end, held-start, held-step}
use Rattle.rpki_validation.proofs.NotingLaws.{AddsUpTo, NotesUpTo, adds-start, notes-first-end, notes-second-end}
use Rattle.rpki_validation.proofs.NotingLaws.{notes-start}
use Rattle.rpki_validation.proofs.RejectedLaws.{children-step, right-step, wrong-step}
use Rattle.rpki_validation.proofs.visit.add_files.Goals as goal

pub octets-init : goal.octets-init
octets-init g c =
    let p = g.P.Provider in
    let gives = c.into_iter-one-iterator.ensures.into_iter_gives in
    let old = found c.args.below.now c.args.outcome.now in
    let Child = IsChildOf p c.args.list.now in
    let Right = IsRightHere p c.args.list.now in
    let Note = IsNotedHere p c.args.list.now c.args.folder.now in
    record {
      next = tt;
      ends = tt;
      count = omega (arith, gives.1, ap length gives.0, c.args.octets.ok.0);
      sisters = sisters-none c.args.list.now.issuer c.args.list.now.at c.args.below.now.items;
      said = subst
          (λ (q : List (List ℕ)). AreLeft p c.args.list.now c.args.files.now
          c.args.files.now c.args.octets.items q old old) (sym gives.0)
          (files-start p c.args.list.now c.args.files.now c.args.octets.items
          old);
      children = subst
          (λ (q : List (List ℕ)). AddsUpTo Child c.args.files.now c.args.files.now c.args.octets.items q
          c.args.below.now.items c.args.below.now.items) (sym gives.0)
          (adds-start Child c.args.files.now c.args.octets.items c.args.below.now.items);
      held = subst
          (λ (q : List (List ℕ)). HeldUpTo p c.args.list.now c.args.files.now
          c.args.octets.items c.args.files.now q c.args.outcome.now c.args.outcome.now) (sym gives.0)
          (held-start p c.args.list.now c.args.files.now c.args.octets.items
          c.args.outcome.now);
      rejected = subst
          (λ (q : List (List ℕ)). NotesUpTo Right Note c.args.files.now c.args.files.now c.args.octets.items q
          c.args.outcome.now.rejections.items c.args.outcome.now.rejections.items) (sym gives.0)
          (notes-start Right Note c.args.files.now c.args.octets.items c.args.outcome.now.rejections.items);
    }

pub returns-in_default-clause-said : goal.returns-in_default-clause-said
returns-in_default-clause-said g c =
    let p = g.P.Provider in
    files-end p c.args.list.now c.args.files.now c.args.octets.items
    (found c.args.below.now c.args.outcome.now) c.octets.rest.now (into_iter_items c.octets.one-iterator)
    (found c.octets.below c.octets.outcome) c.octets.invariant.said c.in_default.ensures.cases

pub octets-preserved-in-Ok : goal.octets-preserved-in-Ok
octets-preserved-in-Ok g c =
    let p = g.P.Provider in
    record {
      next = tt;
      ends = tt;
      count = omega (arith, ap length c.in-Some.ensures.steps.0, c.in-Some.ensures.steps.1, c.octets.invariant.count);
      sisters = sisters-then c.args.list.now.issuer c.args.list.now.at _ _ _ c.octets.invariant.sisters
          c.in-Ok.ensures.sisters;
      said = files-step p c.args.list.now c.args.files.now c.args.octets.items
          (found c.args.below.now c.args.outcome.now) c.octets.rest.now (into_iter_items c.octets.one-iterator)
          (found c.octets.below c.octets.outcome) c.octets.invariant.said c.in-Some-split_first.file.now
          c.in-Some-split_first.following.now c.in-Some.one (into_iter_items c.next.new.self) _
          c.in-Some-split_first.ensures.cases.0 c.in-Some.ensures.steps.0 c.in-Ok.ensures.said;
      children = children-step p c.args.list.now c.args.folder.now
          c.args.files.now c.args.octets.items c.in-Some-split_first.file.now c.octets.rest.now
          c.in-Some-split_first.following.now c.in-Some.one (into_iter_items c.octets.one-iterator)
          (into_iter_items c.next.new.self) c.in-Some-split_first.ensures.cases.0 c.in-Some.ensures.steps.0
          c.args.below.now.items _ _ c.octets.invariant.children c.in-Ok.ensures.children;
      held = held-step p c.args.list.now c.args.files.now c.args.octets.items
          c.in-Some-split_first.file.now c.octets.rest.now c.in-Some-split_first.following.now c.in-Some.one
          (into_iter_items c.octets.one-iterator) (into_iter_items c.next.new.self)
          c.in-Some-split_first.ensures.cases.0 c.in-Some.ensures.steps.0 c.args.outcome.now c.octets.outcome _
          c.octets.invariant.held c.in-Ok.ensures.held;
      rejected = right-step p c.args.list.now c.args.folder.now
          c.args.files.now c.args.octets.items c.in-Some-split_first.file.now c.octets.rest.now
          c.in-Some-split_first.following.now c.in-Some.one (into_iter_items c.octets.one-iterator)
          (into_iter_items c.next.new.self) c.in-Some-split_first.ensures.cases.0 c.in-Some.ensures.steps.0
          c.args.outcome.now.rejections.items _ _ c.in-Ok.ensures.rejections c.octets.invariant.rejected
          c.in-Ok.ensures.why;
    }

pub octets-preserved : goal.octets-preserved
octets-preserved g c =
    let p = g.P.Provider in
    let held = rw c.in-Err-Rejected.field-0-is at c.in-Err-Rejected.ensures.held in
    record {
      next = tt;
      ends = tt;
      count = omega (arith, ap length c.in-Some.ensures.steps.0, c.in-Some.ensures.steps.1, c.octets.invariant.count);
      sisters = sisters-then c.args.list.now.issuer c.args.list.now.at _ _ _ c.octets.invariant.sisters
          (rw c.in-Err-Rejected.field-0-is at c.in-Err-Rejected.ensures.sisters);
      said = files-step p c.args.list.now c.args.files.now c.args.octets.items
          (found c.args.below.now c.args.outcome.now) c.octets.rest.now (into_iter_items c.octets.one-iterator)
          (found c.octets.below c.octets.outcome) c.octets.invariant.said c.in-Some-split_first.file.now
          c.in-Some-split_first.following.now c.in-Some.one (into_iter_items c.next.new.self) _
          c.in-Some-split_first.ensures.cases.0 c.in-Some.ensures.steps.0
          (rw c.in-Err-Rejected.field-0-is at c.in-Err-Rejected.ensures.said);
      children = children-step p c.args.list.now c.args.folder.now
          c.args.files.now c.args.octets.items c.in-Some-split_first.file.now c.octets.rest.now
          c.in-Some-split_first.following.now c.in-Some.one (into_iter_items c.octets.one-iterator)
          (into_iter_items c.next.new.self) c.in-Some-split_first.ensures.cases.0 c.in-Some.ensures.steps.0
          c.args.below.now.items _ _ c.octets.invariant.children
          (rw c.in-Err-Rejected.field-0-is at c.in-Err-Rejected.ensures.children);
      held = held-step p c.args.list.now c.args.files.now c.args.octets.items
          c.in-Some-split_first.file.now c.octets.rest.now c.in-Some-split_first.following.now c.in-Some.one
          (into_iter_items c.octets.one-iterator) (into_iter_items c.next.new.self)
          c.in-Some-split_first.ensures.cases.0 c.in-Some.ensures.steps.0 c.args.outcome.now c.octets.outcome _
          c.octets.invariant.held
          (record { origins = held.origins; providers = held.providers; routers = held.routers });
      rejected = wrong-step p c.args.list.now c.args.folder.now
          c.args.files.now c.args.octets.items c.in-Some-split_first.file.now c.octets.rest.now
          c.in-Some-split_first.following.now c.in-Some.one (into_iter_items c.octets.one-iterator)
          (into_iter_items c.next.new.self) c.in-Some-split_first.ensures.cases.0 c.in-Some.ensures.steps.0
          c.args.outcome.now.rejections.items _ _ _
          (rw c.in-Err-Rejected.field-0-is at c.in-Err-Rejected.ensures.rejections) c.octets.invariant.rejected _
          (rw c.in-Err-Rejected.field-0-is at c.in-Err-Rejected.ensures.why)
          c.in_ok-reject_file-in-Err-Rejected.ensures;
    }

pub returns-clause-said : goal.returns-clause-said
returns-clause-said g c =
    let p = g.P.Provider in
    octets-end p c.args.list.now c.args.files.now c.args.octets.items
    (found c.args.below.now c.args.outcome.now) c.octets.rest.now (into_iter_items c.octets.one-iterator)
    (found c.octets.below c.octets.outcome) c.octets.invariant.said
    (omega (arith, c.in-None.ensures.steps.0, c.octets.invariant.count))

-- ---- the end

pub returns-in_default-clause-children : goal.returns-in_default-clause-children
returns-in_default-clause-children g c = c.octets.invariant.children.each

pub returns-clause-children : goal.returns-clause-children
returns-clause-children g c = c.octets.invariant.children.each

pub returns-in_default-clause-rejected : goal.returns-in_default-clause-rejected
returns-in_default-clause-rejected g c =
    let p = g.P.Provider in
    notes-first-end (IsRightHere p c.args.list.now)
    (IsNotedHere p c.args.list.now c.args.folder.now) c.args.files.now
    c.args.octets.items c.args.outcome.now.rejections.items c.octets.rest.now (into_iter_items c.octets.one-iterator)
    c.octets.outcome.rejections.items c.octets.invariant.rejected c.in_default.ensures.cases

pub returns-clause-rejected : goal.returns-clause-rejected
returns-clause-rejected g c =
    let p = g.P.Provider in
    notes-second-end (IsRightHere p c.args.list.now)
    (IsNotedHere p c.args.list.now c.args.folder.now) c.args.files.now
    c.args.octets.items c.args.outcome.now.rejections.items c.octets.rest.now (into_iter_items c.octets.one-iterator)
    c.octets.outcome.rejections.items c.octets.invariant.rejected
    (omega (arith, c.in-None.ensures.steps.0, c.octets.invariant.count))

pub returns-in_default-clause-held : goal.returns-in_default-clause-held
returns-in_default-clause-held g c =
    let p = g.P.Provider in
    held-end p c.args.list.now c.args.files.now c.args.octets.items
    c.octets.rest.now (into_iter_items c.octets.one-iterator) c.args.outcome.now c.octets.outcome
    c.octets.invariant.held

pub returns-clause-held : goal.returns-clause-held
returns-clause-held g c =
    let p = g.P.Provider in
    held-end p c.args.list.now c.args.files.now c.args.octets.items
    c.octets.rest.now (into_iter_items c.octets.one-iterator) c.args.outcome.now c.octets.outcome
    c.octets.invariant.held

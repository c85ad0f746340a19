use Rattle.std.proofs.Common.{◌≡◌, ◌+◌, ◌-◌, ℕ, List, ◌++◌, length, subst, ap, ◌∙◌, arith, [], ◌∷◌, inl, inr, refl, not}
use Rattle.std.proofs.Common.{Some, None, length-append}
use Rattle.std.proofs.lemmas.Result.{err_from_is_err_and}
use Rattle.std.proofs.lemmas.Slice.{pushed}
use Rattle.rpki_der.specs.Index.{Entry}
use Rattle.rpki_der.specs.IndexParts.{IsEnd, noted}
use Rattle.rpki_der.proofs.MembersLaws.{two-octets}
use Rattle.rpki_der.proofs.WalkingLaws.{begins-with, start-primitive}
use Rattle.rpki_der.proofs.IndexingLaws.{made, made-here, IsWalking, last-is, around, none-around, noted-end, kept-end}
use Rattle.rpki_der.proofs.IndexingLaws.{inside, inside-fault, inside-fits, inside-end, inside-primitive}
use Rattle.rpki_der.proofs.IndexingLaws.{inside-constructed, start-listed, start-walking, walking-done, takes-memory}
use Rattle.rpki_der.proofs.IndexingLaws.{takes-memory-open}
use Rattle.rpki_der.proofs.walk.walk_value.Goals as goal

pub returns-in_err-name-clause-refused : goal.returns-in_err-name-clause-refused
returns-in_err-name-clause-refused c =
    let p = err_from_is_err_and c.from_residual.result c.from_residual.ensures.1 in
    let h = c.in-Ok.ensures in
    let r = c.in_err-name.ensures.refused in
    rw p.1 (inl (p.2 ∙ r.0, takes-memory {h = c.in-Ok.entered.0} c.args.keep c.in-Ok.entered.1 r.1 h.found h.within))

pub returns-then-not-first-clause-accepted : goal.returns-then-not-first-clause-accepted
returns-then-not-first-clause-accepted c =
    let h = c.in-Ok.ensures in
    start-primitive _ (ap not c.if-not-first.true) (begins-with c.in-Ok.entered.1 h.found h.within) h.within
    (omega (arith, h.counted))

pub returns-then-not-first-clause-kept : goal.returns-then-not-first-clause-kept
returns-then-not-first-clause-kept c =
    let h = c.in-Ok.ensures in
    let x = c.in-Ok.entered in
    let front = begins-with x.1 h.found h.within in
    let more : c.note.new.entries.items ≡ c.args.entries.now.items ++ noted c.args.keep
    (made c.args.before x.1 x.0.length x.0.tag x.0.constructed None) =
    c.in_ok-name.ensures.noted ∙ ap (λ (y : Entry). c.args.entries.now.items ++ noted c.args.keep y)
    (made-here c.args.before None front c.new-entry.ensures) in
    start-listed _ (ap not c.if-not-first.true) front h.within more

pub returns-in_err-push-clause-refused : goal.returns-in_err-push-clause-refused
returns-in_err-push-clause-refused c =
    let p = err_from_is_err_and c.from_residual-in_err-push.result c.from_residual-in_err-push.ensures.1 in
    let h = c.in-Ok.ensures in
    rw p.1 (inl (
      p.2,
      takes-memory-open {h = c.in-Ok.entered.0} c.args.keep c.in-Ok.entered.1
          (ap not c.if-not-first.false) h.found h.within,
    ))

pub values-init : goal.values-init
values-init c =
    let h = c.in-Ok.ensures in
    let x = c.in-Ok.entered in
    let front = begins-with x.1 h.found h.within in
    let e : Entry = made c.args.before x.1 x.0.length x.0.tag x.0.constructed None in
    let more : c.note.new.entries.items ≡ c.args.entries.now.items ++ noted c.args.keep e =
    c.in_ok-name.ensures.noted ∙ ap (λ (y : Entry). c.args.entries.now.items ++ noted c.args.keep y)
    (made-here c.args.before None front c.new-entry.ensures) in
    let one : c.new-open.result.items ++ c.in_ok-name.name ∷ [] ≡ c.in_ok-name.name ∷ [] = ap
    (λ (y : List ℕ). y ++ c.in_ok-name.name ∷ []) c.new-open.ensures.items in
    record {
      low = omega (arith, h.within);
      raised = omega (arith, h.counted);
      half = omega (arith, h.counted, front.size, two-octets x.0.tag x.0.constructed x.0.length);
      ending = noted-end _ e more c.in_ok-name.ensures.named (omega arith);
      within = start-walking _ _ _ _ (ap not c.if-not-first.false) front h.within (omega (arith, h.counted))
          c.in_ok-name.ensures.named one more;
    }

pub returns-in-None-clause-accepted : goal.returns-in-None-clause-accepted
returns-in-None-clause-accepted c =
    let v = c.values.invariant in
    let i = inside (last-is c.values.open.items c.values.innermost) v.ending v.within in
    let w = inside-end c.values.open.items i c.if-place-end.true (around c.values.open.items c.values.innermost) in
    (walking-done (none-around c.values.open.items (omega (arith, c.values.open.ok.0, c.in-None.ensures.cases.0)))
    w).value

pub returns-in-None-clause-kept : goal.returns-in-None-clause-kept
returns-in-None-clause-kept c =
    let v = c.values.invariant in
    let i = inside (last-is c.values.open.items c.values.innermost) v.ending v.within in
    let w = inside-end c.values.open.items i c.if-place-end.true (around c.values.open.items c.values.innermost) in
    (walking-done (none-around c.values.open.items (omega (arith, c.values.open.ok.0, c.in-None.ensures.cases.0)))
    w).listed

pub values-preserved-then-place-end : goal.values-preserved-then-place-end
values-preserved-then-place-end c =
    let v = c.values.invariant in
    let i = inside (last-is c.values.open.items c.values.innermost) v.ending v.within in
    let w = inside-end c.values.open.items i c.if-place-end.true (around c.values.open.items c.values.innermost) in
    record {
      low = omega arith;
      raised = omega arith;
      half = omega arith;
      ending = record {
        is = subst (λ (x : List Entry). IsEnd c.args.keep c.args.before x c.in-Some.outer c.end_of-end.result)
            c.as_slice.ensures.value c.end_of-end.ensures;
      };
      within = subst (λ (x : List ℕ). IsWalking c.args.keep c.args.before c.args.entries.now.items c.args.octets.now x
          c.values.entries.items c.values.place (c.values.steps - c.args.steps.now)) c.in-Some.ensures.items w;
    }

pub returns-in-Err-take_header_within-clause-refused : goal.returns-in-Err-take_header_within-clause-refused
returns-in-Err-take_header_within-clause-refused c =
    let v = c.values.invariant in
    let i = inside (last-is c.values.open.items c.values.innermost) v.ending v.within in
    inr (inside-fault i c.in-Err-take_header_within.ensures.refused)

pub returns-in_err-inner-clause-refused : goal.returns-in_err-inner-clause-refused
returns-in_err-inner-clause-refused c =
    let p = err_from_is_err_and c.from_residual-in_err-inner.result c.from_residual-in_err-inner.ensures.1 in
    let h = c.in-Ok.ensures in
    rw p.1 (inl (
      p.2 ∙ c.in_err-inner.ensures.refused.0,
      takes-memory-open {h = c.in-Ok.entered.0} c.args.keep
          c.in-Ok.entered.1 (ap not c.if-not-first.false) h.found h.within,
    ))

pub values-smaller-then-not-found : goal.values-smaller-then-not-found
values-smaller-then-not-found c =
    let v = c.values.invariant in
    let i = inside (last-is c.values.open.items c.values.innermost) v.ending v.within in
    let h = c.in-Ok-take_header_within.ensures in
    let fits = inside-fits i (begins-with c.in-Ok-take_header_within.entered.1 h.found h.within) h.within in
    omega (arith, fits.0, fits.1)

pub values-preserved-then-not-found : goal.values-preserved-then-not-found
values-preserved-then-not-found c =
    let v = c.values.invariant in
    let last = last-is c.values.open.items c.values.innermost in
    let i = inside last v.ending v.within in
    let h = c.in-Ok-take_header_within.ensures in
    let x = c.in-Ok-take_header_within.entered in
    let front = begins-with x.1 h.found h.within in
    let e : Entry = made (c.args.before + c.values.place) x.1 x.0.length x.0.tag x.0.constructed
    (Some c.values.innermost) in
    let more : c.note-in-values.new.entries.items ≡ c.values.entries.items ++ noted c.args.keep e =
    c.in_ok-inner.ensures.noted ∙ ap (λ (y : Entry). c.values.entries.items ++ noted c.args.keep y)
    (made-here (c.args.before + c.values.place) (Some c.values.innermost) front c.new-entry-in-values.ensures) in
    let fits = inside-fits i front h.within in
    record {
      low = fits.0;
      raised = omega (arith, h.counted);
      half = omega (arith, h.counted, fits.1);
      ending = kept-end e more v.ending;
      within = inside-primitive _ _ last i (ap not c.if-not-found.true) front h.within (omega (arith, h.counted)) more;
    }

pub values-smaller : goal.values-smaller
values-smaller c =
    let v = c.values.invariant in
    let i = inside (last-is c.values.open.items c.values.innermost) v.ending v.within in
    let h = c.in-Ok-take_header_within.ensures in
    let fits = inside-fits i (begins-with c.in-Ok-take_header_within.entered.1 h.found h.within) h.within in
    let longer = pushed (c.values.innermost ∷ []) refl c.in_ok-push.was c.push.ensures.items in
    omega (arith, fits.0, fits.1, ap length longer, length-append {A = ℕ})

pub values-preserved : goal.values-preserved
values-preserved c =
    let v = c.values.invariant in
    let last = last-is c.values.open.items c.values.innermost in
    let i = inside last v.ending v.within in
    let h = c.in-Ok-take_header_within.ensures in
    let x = c.in-Ok-take_header_within.entered in
    let front = begins-with x.1 h.found h.within in
    let e : Entry = made (c.args.before + c.values.place) x.1 x.0.length x.0.tag x.0.constructed
    (Some c.values.innermost) in
    let more : c.note-in-values.new.entries.items ≡ c.values.entries.items ++ noted c.args.keep e =
    c.in_ok-inner.ensures.noted ∙ ap (λ (y : Entry). c.values.entries.items ++ noted c.args.keep y)
    (made-here (c.args.before + c.values.place) (Some c.values.innermost) front c.new-entry-in-values.ensures) in
    let fits = inside-fits i front h.within in
    let longer = pushed (c.values.innermost ∷ []) refl c.in_ok-push.was c.push.ensures.items in
    let names : c.push.new.self.items ++ c.in_ok-inner.inner ∷ [] ≡ (c.values.open.items ++ c.values.innermost ∷ []) ++
    c.in_ok-inner.inner ∷ [] = ap (λ (y : List ℕ). y ++ c.in_ok-inner.inner ∷ []) longer in
    record {
      low = omega (arith, fits.0);
      raised = omega (arith, h.counted);
      half = omega (arith, h.counted, fits.1);
      ending = noted-end _ e more c.in_ok-inner.ensures.named (omega arith);
      within = inside-constructed _ _ _ _ last i (ap not c.if-not-found.false) front h.within (omega (arith, h.counted))
          c.in_ok-inner.ensures.named names more;
    }

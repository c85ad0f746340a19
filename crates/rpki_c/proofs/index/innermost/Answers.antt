use Rattle.std.proofs.Common.{◌≡◌, ◌<◌, ◌-◌, ◌^◌, ap, ◌∙◌, arith, get_or}
use Rattle.std.proofs.lemmas.Option.{slice_get-get_or, slice_get_within}
use Rattle.rpki_c.specs.declared.index.Entry.{Entry}
use Rattle.rpki_c.proofs.FillingLaws.{blank, climb-up, climb-stay, falls}
use Rattle.rpki_c.proofs.index.innermost.Goals as goal

pub ended-preserved : goal.ended-preserved
ended-preserved c =
    let at = slice_get-get_or c.args.entries.now c.ended.parent blank c.ended-test.true in
    let low : c.ended.parent < 2 ^ 64 - 1 = omega (arith, c.ended-test.true) in
    let v = c.ended.invariant in
    let more = climb-up _ at c.if-entries-parent.true low v.some.1 in
    record { some = (v.some.0, more.1); all = λ q k. (climb-up _ at c.if-entries-parent.true low (v.all q k)).1 }

pub ended-smaller : goal.ended-smaller
ended-smaller c =
    let at = slice_get-get_or c.args.entries.now c.ended.parent blank c.ended-test.true in
    let low : c.ended.parent < 2 ^ 64 - 1 = omega (arith, c.ended-test.true) in
    let more = climb-up _ at c.if-entries-parent.true low c.ended.invariant.some.1 in
    falls _ _ low more.0

pub returns-else-entries-parent : goal.returns-else-entries-parent
returns-else-entries-parent c = λ q k.
    let at = slice_get-get_or c.args.entries.now c.ended.parent blank c.ended-test.true in
    climb-stay (λ e there same.
    let one : get_or c.args.entries.now c.ended.parent blank ≡ e = cc (at, there) in
    c.if-entries-parent.false (ap (λ (x : Entry). x.end) one ∙ same)) (c.ended.invariant.all q k)

pub returns-after-ended : goal.returns-after-ended
returns-after-ended c = λ q k.
    climb-stay (λ e there same. omega (
      arith,
      slice_get_within c.args.entries.now c.ended.parent e there,
      c.ended-test.false,
    )) (c.ended.invariant.all q k)

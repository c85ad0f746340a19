use Rattle.std.proofs.Common.{◌++◌, ◌∙◌, drop, map, inl, inr, refl, sym, ap, arith}
use Rattle.std.proofs.lemmas.List.{length-map}
use Rattle.rpki_c.specs.Front.{passed}
use Rattle.rpki_c.proofs.FillingLaws.{front-index}
use Rattle.rpki_c.proofs.index.rpki_index.Goals as goal

pub write_index-requires-clause-values : goal.write_index-requires-clause-values
write_index-requires-clause-values c =
    let h = c.in-Ok.ensures in
    front-index c.args.octets.now c.in-Ok.size _ c.count-headers.result h.accepted h.counted
    (omega (arith, c.count-headers.ensures, c.new-steps.ensures))

pub returns-then-entries-headers : goal.returns-then-entries-headers
returns-then-entries-headers c =
    let h = c.in-Ok.ensures in
    let x = front-index c.args.octets.now c.in-Ok.size _ c.count-headers.result h.accepted h.counted
    (omega (arith, c.count-headers.ensures, c.new-steps.ensures)) in
    let size = length-map x.0 passed in
    inl (
      x.0,
      record { size = c.in-Ok.size; within = h.within; read = h.accepted; is = x.1 },
      inr (
        refl,
        record {
          short = omega (arith, x.2, size, c.if-entries-headers.true);
          array = refl;
          size = omega (arith, x.2, size);
        },
      ),
    )

pub returns : goal.returns
returns c =
    let h = c.in-Ok.ensures in
    let (index, is, counted, array) = c.write_index.ensures in
    let size = length-map index passed in
    inl (
      index,
      record { size = c.in-Ok.size; within = h.within; read = h.accepted; is = is },
      inl (
        refl,
        record {
          room = omega (arith, size, counted, c.if-entries-headers.false);
          array = array ∙ ap (λ n. map passed index ++ drop n c.args.entries.now) (sym (size ∙ counted));
          size = omega (arith, size, counted);
        },
      ),
    )

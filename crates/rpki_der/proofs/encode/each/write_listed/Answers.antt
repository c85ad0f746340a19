use Rattle.std.proofs.Common.{arith}
use Rattle.std.proofs.lemmas.Result.{err_from_is_err_and}
use Rattle.rpki_der.proofs.WritingLaws.{all-but-then}
use Rattle.rpki_der.proofs.ListedLaws.{first-octets, first-size, first-has, beginning-left}
use Rattle.rpki_der.proofs.encode.each.write_listed.Goals as goal

pub write_encoded-requires : goal.write_encoded-requires
write_encoded-requires g c =
    let values = g.T.Values in
    let is = c.in-Some.ensures.cases.0 in
    let size = first-size values.encoded _ _ _ is in
    ((first-has values.is_short _ _ _ is c.each.invariant.left).0, omega (arith, size, c.each.invariant.few))

pub each-preserved : goal.each-preserved
each-preserved g c =
    let values = g.T.Values in
    let is = c.in-Some.ensures.cases.0 in
    let size = first-size values.encoded _ _ _ is in
    record {
      written = all-but-then _ _ _ _ _ _ _ c.each.invariant.written (first-octets values.encoded _ _ _ is)
          c.in_ok-write_encoded.ensures;
      few = omega (arith, size, c.each.invariant.few);
      left = (first-has values.is_short _ _ _ is c.each.invariant.left).1;
    }

pub returns-in_err-write_encoded : goal.returns-in_err-write_encoded
returns-in_err-write_encoded g c =
    let is = c.in-Some.ensures.cases.0 in
    let p = err_from_is_err_and c.from_residual.result c.from_residual.ensures.1 in
    rw p.1 (beginning-left _ _ _ _ _ _ _ c.each.invariant.written (first-octets g.T.Values.encoded _ _ _ is)
    c.in_err-write_encoded.ensures)

use Rattle.std.proofs.Common.{arith}
use Rattle.std.proofs.lemmas.Result.{err_from_is_err_and}
use Rattle.rpki_der.proofs.WritingLaws.{all-but-then}
use Rattle.rpki_der.proofs.ListedLaws.{beginning-left}
use Rattle.rpki_contents.proofs.RoaWritingLaws.{prefix-few, first-fits, first-octets}
use Rattle.rpki_contents.proofs.roa_encoder.write_prefixes.Goals as goal

pub write_encoded-requires : goal.write_encoded-requires
write_encoded-requires g c =
    let fits = first-fits c.each.rest.now c.in-Some.following.now c.in-Some.first.now c.in-Some.ensures.cases.0
    c.each.invariant.fit in
    let few = prefix-few c.in-Some.first.now fits.0 in
    (c.encode_prefix.ensures.short, rw c.encode_prefix.ensures.octets (omega (arith, few)))

pub each-preserved : goal.each-preserved
each-preserved g c =
    let is = c.in-Some.ensures.cases.0 in
    let wrote = rw c.encode_prefix.ensures.octets at c.in_ok-write_encoded.ensures in
    record {
      written = all-but-then _ _ _ _ _ _ _ c.each.invariant.written
          (first-octets c.each.rest.now c.in-Some.following.now c.in-Some.first.now is) wrote;
      fit = (first-fits c.each.rest.now c.in-Some.following.now c.in-Some.first.now is c.each.invariant.fit).1;
    }

pub returns-in_err-write_encoded : goal.returns-in_err-write_encoded
returns-in_err-write_encoded g c =
    let is = c.in-Some.ensures.cases.0 in
    let wrote = rw c.encode_prefix.ensures.octets at c.in_err-write_encoded.ensures in
    let p = err_from_is_err_and c.from_residual.result c.from_residual.ensures.1 in
    rw p.1 (beginning-left _ _ _ _ _ _ _ c.each.invariant.written
    (first-octets c.each.rest.now c.in-Some.following.now c.in-Some.first.now is) wrote)

use Rattle.std.proofs.Common.{arith}
use Rattle.std.proofs.lemmas.Result.{err_from_is_err_and}
use Rattle.rpki_der.proofs.WritingLaws.{all-but-then}
use Rattle.rpki_resources.proofs.BlockWritingLaws.{beginning-left}
use Rattle.rpki_contents.proofs.AspaWritingLaws.{contents-few, number-few, first-octets}
use Rattle.rpki_contents.proofs.aspa_encoder.write_numbers.Goals as goal

pub write_encoded-requires : goal.write_encoded-requires
write_encoded-requires g c =
    let few = number-few c.in-Some.first.now in
    (c.encode.ensures.short.1 (contents-few c.in-Some.first.now), rw c.encode.ensures.encoded (omega (arith, few)))

pub each-preserved : goal.each-preserved
each-preserved g c =
    let is = c.in-Some.ensures.cases.0 in
    let wrote = rw c.encode.ensures.encoded at c.in_ok-write_encoded.ensures in
    all-but-then _ _ _ _ _ _ _ c.each.invariant
    (first-octets c.each.rest.now c.in-Some.following.now c.in-Some.first.now is) wrote

pub returns-in_err-write_encoded : goal.returns-in_err-write_encoded
returns-in_err-write_encoded g c =
    let is = c.in-Some.ensures.cases.0 in
    let wrote = rw c.encode.ensures.encoded at c.in_err-write_encoded.ensures in
    let p = err_from_is_err_and c.from_residual.result c.from_residual.ensures.1 in
    rw p.1 (beginning-left _ _ _ _ _ _ _ c.each.invariant
    (first-octets c.each.rest.now c.in-Some.following.now c.in-Some.first.now is) wrote)

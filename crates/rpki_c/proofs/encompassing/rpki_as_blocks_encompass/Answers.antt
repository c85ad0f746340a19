use Rattle.std.proofs.Common.{inl, inr, refl}
use Rattle.rpki_c.proofs.ResourceLaws.{kept-as}
use Rattle.rpki_c.proofs.encompassing.rpki_as_blocks_encompass.Goals as goal

pub returns-in-Some : goal.returns-in-Some
returns-in-Some c = let h = c.in-Some.ensures.some in inl (h.0, h.1, h.2, h.3, inl (refl, (h.4, h.5)))

pub returns-in-Ok-read_as : goal.returns-in-Ok-read_as
returns-in-Ok-read_as c =
    let (x, h) = kept-as c.in-Ok.field-0 c.args.outer.now c.in-Ok.ensures.0 in
    let (y, k) = kept-as c.in-Ok-read_as.field-0 c.args.inner.now c.in-Ok-read_as.ensures.0 in
    inl (x, y, h, k, inr (refl, c.in_default.ensures.none x y h k, refl))

pub returns-in-Err-read_as : goal.returns-in-Err-read_as
returns-in-Err-read_as c =
    let k = c.in-Err-read_as.ensures in
    inr (inr (
      kept-as c.in-Ok.field-0 c.args.outer.now c.in-Ok.ensures.0,
      record {
        first = c.number.result;
        number = refl;
        refused = record { error = c.in-Err-read_as.e; number = c.number.ensures; nothing = k.0; kind = k.1 };
      },
      refl,
    ))

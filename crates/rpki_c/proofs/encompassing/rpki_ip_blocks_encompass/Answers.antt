use Rattle.std.proofs.Common.{inl, inr, refl}
use Rattle.rpki_c.proofs.ResourceLaws.{kept-ip}
use Rattle.rpki_c.proofs.encompassing.rpki_ip_blocks_encompass.Goals as goal

pub returns-in-Ok-read_ip : goal.returns-in-Ok-read_ip
returns-in-Ok-read_ip c =
    let (x, h) = kept-ip c.in-Ok.field-0 c.args.outer.now c.in-Ok.ensures.0 in
    let (y, k) = kept-ip c.in-Ok-read_ip.field-0 c.args.inner.now c.in-Ok-read_ip.ensures.0 in
    inl (x, y, h, k, inr (refl, c.in_default.ensures.none x y h k, refl))

pub returns-in-Err-read_ip : goal.returns-in-Err-read_ip
returns-in-Err-read_ip c =
    let k = c.in-Err-read_ip.ensures in
    inr (inr (
      kept-ip c.in-Ok.field-0 c.args.outer.now c.in-Ok.ensures.0,
      record {
        first = c.number.result;
        number = refl;
        refused = record { error = c.in-Err-read_ip.e; number = c.number.ensures; nothing = k.0; kind = k.1 };
      },
      refl,
    ))

use Rattle.std.proofs.Common.{◌/◌, nat_eq, bit_and, refl}
use Rattle.std.proofs.lemmas.Bool.{agree_below_at}
use Rattle.rpki_der.specs.Text.{is_printable}
use Rattle.rpki_der.proofs.text.is_printable.Goals as goal

-- each of the 128 is asked
pub returns-then-octet-lt128 : goal.returns-then-octet-lt128
returns-then-octet-lt128 c = rw c.from.ensures
    (agree_below_at (λ x. nat_eq (bit_and (10633823810298882008484724552398536704 / Prim.Native.Nat.◌^◌ 2 x) 1) 1)
    is_printable 128 c.args.octet refl c.if-octet-lt128.true)

use Rattle.std.proofs.Common.{◌≡◌, ◌++◌, [], arith}
use Rattle.rpki_der.specs.Number.{number_of}
use Rattle.rpki_time.proofs.OctetLaws.{number-u128}
use Rattle.rpki_time.proofs.serial.SerialFromU128.from.Goals as goal

pub returns : goal.returns
returns c =
    let e : number_of (c.copy_from_slice.new.self ++ []) ≡ c.args.number = number-u128 _ _ _ c.ranges.number.fits
    c.to_be_bytes.ensures c.copy_from_slice.ensures.after in
    omega arith

use Rattle.rpki_der.proofs.IntegerLaws.{octets-fit}
use Rattle.rpki_c.specs.Serial.{IsTwenty}
use Rattle.rpki_c.proofs.SerialTableLaws.{table-told}
use Rattle.rpki_c.proofs.serial_table.rpki_serials_have.Goals as goal

pub returns : goal.returns
returns c = λ xs t.
    let s = c.args.serial.now in
    let one : IsTwenty s =
    record { size = c.told-serial; octets = octets-fit s (λ k. record { fits = c.fits-serial k }) } in
    table-told xs c.args.serials.now s c.binary_search.result c.is_ok.result one c.binary_search.ensures.bound
    c.binary_search.ensures.position c.is_ok.ensures.value t

use Rattle.rpki_der.proofs.IntegerLaws.{octets-fit}
use Rattle.rpki_c.proofs.serial_table.put_serial.Goals as goal

pub returns-then-number-serials-clause-twenty : goal.returns-then-number-serials-clause-twenty
returns-then-number-serials-clause-twenty c =
    record { size = c.told-twenty; octets = octets-fit c.args.twenty.now (λ k. record { fits = c.fits-twenty k }) }

pub returns-else-number-serials-clause-twenty : goal.returns-else-number-serials-clause-twenty
returns-else-number-serials-clause-twenty c =
    record { size = c.told-twenty; octets = octets-fit c.args.twenty.now (λ k. record { fits = c.fits-twenty k }) }

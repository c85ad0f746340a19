use Rattle.std.proofs.Common.{length}
use Rattle.rpki_der.specs.Cursor.{left}
use Rattle.rpki_c.proofs.SerialTableLaws.{IsWriting}
use Rattle.rpki_c.proofs.serial_table.write_serials.Given as goal

-- the serial numbers so far are written, and the other entries remain
abbrev pub invariant-entries : goal.invariant-entries
invariant-entries l = IsWriting l.octets l.fn.serials l.serials l.number (left l.rest)

abbrev pub decreases-entries : goal.decreases-entries
decreases-entries l = length (left l.rest)

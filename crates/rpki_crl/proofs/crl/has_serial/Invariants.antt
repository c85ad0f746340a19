use Rattle.std.proofs.Common.{◌≡◌, drop}
use Rattle.rpki_crl.specs.Crl.{entries_in, is_revoked}
use Rattle.rpki_crl.proofs.crl.has_serial.Given as goal

abbrev pub invariant-entries : goal.invariant-entries
invariant-entries l = is_revoked l.serial (entries_in l.entries)
    ≡ is_revoked l.serial (entries_in (drop l.entry-index l.entries))

use Rattle.std.proofs.Common.{length}
use Rattle.rpki_contents.specs.Encoded.{CanWriteFiles, AreNamed}
use Rattle.rpki_contents.proofs.encode.can_write_files.Given as goal

-- all can be written exactly where the rest can, and have names where those have
abbrev pub invariant-each : goal.invariant-each
invariant-each l = record {
  there : CanWriteFiles l.rest → CanWriteFiles l.files;
  back : CanWriteFiles l.files → CanWriteFiles l.rest;
  named : AreNamed l.rest → AreNamed l.files;
}

abbrev pub decreases-each : goal.decreases-each
decreases-each l = length l.rest

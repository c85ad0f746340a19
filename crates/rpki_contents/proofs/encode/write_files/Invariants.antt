use Rattle.std.proofs.Common.{length}
use Rattle.rpki_der.specs.Written.{AppendsAllBut}
use Rattle.rpki_contents.specs.Encoded.{CanWriteFiles, files_octets}
use Rattle.rpki_contents.proofs.encode.write_files.Given as goal

-- all but the remaining files is written
abbrev pub invariant-each : goal.invariant-each
invariant-each g l = record {
  written : AppendsAllBut (g.W.Write.contents l.initial.out) (g.W.Write.contents l.out) (files_octets l.files)
      (files_octets l.rest);
  fit : CanWriteFiles l.rest;
}

abbrev pub decreases-each : goal.decreases-each
decreases-each g l = length l.rest

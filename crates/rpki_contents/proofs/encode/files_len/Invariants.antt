use Rattle.std.proofs.Common.{◌≡◌, ◌+◌, ◌<◌, ◌^◌, length}
use Rattle.rpki_contents.specs.Encoded.{CanWriteFiles, files_octets}
use Rattle.rpki_contents.proofs.encode.files_len.Given as goal

-- the octets of the files that were seen, and of the rest
abbrev pub invariant-each : goal.invariant-each
invariant-each l = record {
  sum : length (files_octets l.files) ≡ l.total + length (files_octets l.rest);
  below : l.total < 2 ^ 63;
  fit : CanWriteFiles l.rest;
}

abbrev pub decreases-each : goal.decreases-each
decreases-each l = length l.rest

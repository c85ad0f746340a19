use Rattle.std.proofs.Common.{◌≡◌, length}
use Rattle.std.specs.Prelude.{◌&&◌}
use Rattle.rpki_contents.specs.FileName.{are_name_octets}
use Rattle.rpki_contents.proofs.file_name.are_name_octets.Given as goal

-- all are such characters where those so far and the rest are
abbrev pub invariant-octets : goal.invariant-octets
invariant-octets l = are_name_octets l.octets ≡ l.all && are_name_octets l.rest

abbrev pub decreases-octets : goal.decreases-octets
decreases-octets l = length l.rest

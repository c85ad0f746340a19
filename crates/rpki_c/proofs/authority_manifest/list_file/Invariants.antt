use Rattle.std.proofs.Common.{length}
use Rattle.rpki_c.proofs.ListingLaws.{IsSought}
use Rattle.rpki_c.proofs.authority_manifest.list_file.Given as goal

-- the lists are the one that was found, and those of the files that remain
abbrev pub invariant-files : goal.invariant-files
invariant-files l = IsSought l.files l.found l.cursor

abbrev pub decreases-files : goal.decreases-files
decreases-files l = length l.cursor

use Rattle.std.proofs.Common.{◌≡◌, ◌++◌, length}
use Rattle.std.specs.List.{filter}
use Rattle.std.specs.Option.{option_copied, option_to_list}
use Rattle.rpki_validation.specs.Publication.{is_list}
use Rattle.rpki_validation.proofs.publication.list_file.Given as goal

-- the lists are the one that was found, and those of the remaining files
abbrev pub invariant-files : goal.invariant-files
invariant-files l = filter is_list l.files ≡ option_to_list (option_copied l.found) ++ filter is_list l.rest

abbrev pub decreases-files : goal.decreases-files
decreases-files l = length l.rest

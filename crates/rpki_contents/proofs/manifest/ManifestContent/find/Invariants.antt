use Rattle.std.proofs.Common.{◌≡◌, drop}
use Rattle.std.specs.List.{find}
use Rattle.rpki_contents.specs.ListedFile.{is_named}
use Rattle.rpki_contents.proofs.manifest.ManifestContent.find.Given as goal

-- it is found among the remaining files
abbrev pub invariant-files : goal.invariant-files
invariant-files l = find (is_named l.name) l.self.files ≡ find (is_named l.name) (drop l.file-index l.self.files)

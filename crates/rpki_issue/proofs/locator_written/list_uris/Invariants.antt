use Rattle.std.proofs.Common.{map}
use Rattle.rpki_locator.specs.Locator.{uri_text}
use Rattle.rpki_issue.proofs.LocatorLaws.{AreWritten}
use Rattle.rpki_issue.proofs.locator_written.list_uris.Given as goal

-- the URIs so far
abbrev pub invariant-uris : goal.invariant-uris
invariant-uris l = AreWritten (map uri_text l.uris) l.at l.text.items

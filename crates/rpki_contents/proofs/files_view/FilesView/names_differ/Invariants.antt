use Rattle.std.proofs.Common.{◌≤◌, length}
use Rattle.rpki_contents.proofs.RoomLaws.{ArePlaced}
use Rattle.rpki_contents.proofs.files_view.FilesView.names_differ.Given as goal

-- the names so far are in the room, and the other files remain
abbrev pub invariant-names : goal.invariant-names
invariant-names l = record { placed : ArePlaced l.self l.room l.count l.cursor; few : l.count ≤ length l.room }

abbrev pub decreases-names : goal.decreases-names
decreases-names l = length l.cursor

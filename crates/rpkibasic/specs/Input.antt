-- Reading the input to its end.
use Rattle.std.specs.Prelude.{◌≢◌, ℕ, ◌-◌, ◌*◌, ◌≤◌, List, [], length}
use Rattle.rpkibasic.specs.declared.input.Unread.{Unread}
use Rattle.rpkibasic.specs.declared.input.Unread.TheVariants.{Failed, Endless, OutOfMemory}

-- how often the program calls its reader at most
abbrev pub most_calls : ℕ
most_calls = 16_777_216

-- each call asks the reader for 65,536 octets, and the last one finds the end
abbrev pub most_octets : ℕ → ℕ
most_octets calls = (calls - 1) * 65_536

-- Why the octets that a reader has were not read to their end by so many calls: each of them gave one octet or more; or
-- allocation failed, where there was an octet; or the reader failed.
abbrev pub IsUnread : ℕ → List ℕ → Unread → Type 0
IsUnread calls octets Endless = calls ≤ length octets
IsUnread calls octets OutOfMemory = octets ≢ []
IsUnread calls octets (Failed e) = Unit {0}

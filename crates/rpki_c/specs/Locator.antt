-- What a status says of a trust anchor locator (RFC 8630 2.2).
use Rattle.std.specs.Prelude.{◌≡◌, ◌⊎◌, ℕ, List, length, Some, None}
use Rattle.std.specs.List.{slice_get}
use Rattle.rpki.specs.PublicKey.{KeyParts, key_octets}
use Rattle.rpki_locator.specs.declared.error.LocatorError.{LocatorError}
use Rattle.rpki_locator.specs.declared.error.LocatorError.TheVariants.{OtherUri, NoUri, NoKey, OtherText, OtherKey}
use Rattle.rpki_locator.specs.declared.error.LocatorError.TheVariants.{OutOfMemory}
use Rattle.rpki_locator.specs.Locator.{IsLocator, IsLocatorError}
use Rattle.rpki_c.specs.Made.{IsMadeIf, IsShortKey}
use Rattle.rpki_c.specs.Status.{no_answer, out_of_memory}
use Rattle.rpki_c.specs.Stored.{IsStored}

-- the status of a text in which this is wrong
abbrev pub locator_number : LocatorError → ℕ
locator_number (OtherUri line) = 24
locator_number (NoUri line) = 25
locator_number (NoKey line) = 26
locator_number (OtherText line) = 27
locator_number (OtherKey line error) = 28
locator_number OutOfMemory = out_of_memory

-- its line; else this one
abbrev pub line_of : ℕ → LocatorError → ℕ
line_of old (OtherUri line) = line
line_of old (NoUri line) = line
line_of old (NoKey line) = line
line_of old (OtherText line) = line
line_of old (OtherKey line error) = line
line_of old OutOfMemory = old

-- the text is no locator, and the status says what is wrong with it first
abbrev pub IsNoLocator : List ℕ → ℕ → Type 0
IsNoLocator text status = (e : LocatorError) × IsLocatorError text e × (status ≡ locator_number e)

-- Status 0: the text is a locator, and the count is that of its URIs. Else the status says what is wrong with it first,
-- and the line is that one.
abbrev pub IsLocatorRead : List ℕ → ℕ → ℕ → ℕ → ℕ → ℕ → Type 0
IsLocatorRead text status count counted line told =
    ((status ≡ 0) × ((uris : List (List ℕ)) × (key : KeyParts) × IsLocator text uris key × (counted ≡ length uris))
    × (told ≡ line))
    ⊎ ((e : LocatorError) × IsLocatorError text e × (status ≡ locator_number e) × (told ≡ line_of line e)
    × (counted ≡ count))

-- 0, 9: the text of the URI of this number was written, or has no room. 10: there are no more, and nothing is written.
abbrev pub IsUriFound : List (List ℕ) → ℕ → ℕ → List ℕ → List ℕ → ℕ → ℕ → Type 0
IsUriFound uris number status old new before told =
    ((uri : List ℕ) × (slice_get uris number ≡ Some uri) × IsStored uri status old new told)
    ⊎ ((status ≡ no_answer) × (slice_get uris number ≡ None) × (new ≡ old) × (told ≡ before))

-- of the URIs of the locator; or the text is none, and nothing is written
abbrev pub IsUriWritten : List ℕ → ℕ → ℕ → List ℕ → List ℕ → ℕ → ℕ → Type 0
IsUriWritten text number status old new before told =
    ((uris : List (List ℕ)) × (key : KeyParts) × IsLocator text uris key
    × IsUriFound uris number status old new before told)
    ⊎ (IsNoLocator text status × (new ≡ old) × (told ≡ before))

-- The key of the locator was written, as keys are. Or the text is none, and nothing is written.
abbrev pub IsAnchorWritten : List ℕ → ℕ → List ℕ → List ℕ → ℕ → ℕ → Type 0
IsAnchorWritten text status old new before told =
    ((uris : List (List ℕ)) × (key : KeyParts) × IsLocator text uris key
    × IsMadeIf (IsShortKey key) (key_octets key) status old new before told)
    ⊎ (IsNoLocator text status × (new ≡ old) × (told ≡ before))

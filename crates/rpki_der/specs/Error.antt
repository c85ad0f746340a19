use Rattle.std.specs.Prelude.{ℕ, ◌≡◌, List}
use Rattle.rpki_der.specs.ErrorText.{text_of, error_text}
use Rattle.rpki_der.specs.declared.error.ContentError.{ContentError}
use Rattle.rpki_der.specs.declared.error.DecodeError.{DecodeError}
use Rattle.rpki_der.specs.declared.error.DecodeError.TheVariants.{Truncated, BadTag, BadLength, Unexpected, Content}
use Rattle.rpki_der.specs.declared.error.DecodeError.TheVariants.{Trailing, OutOfMemory}

-- the number under which a program reports an error
abbrev pub error_number : DecodeError → ℕ
error_number Truncated = 1
error_number BadTag = 2
error_number BadLength = 3
error_number Unexpected = 4
error_number (Content e) = 5
error_number Trailing = 6
error_number OutOfMemory = 7

-- the error of contents that has the text of an error: of one of contents, the one inside
abbrev pub IsContentOf : DecodeError → ContentError → Type 0
IsContentOf (Content inner) e = e ≡ inner
IsContentOf Truncated e = text_of e ≡ error_text Truncated
IsContentOf BadTag e = text_of e ≡ error_text BadTag
IsContentOf BadLength e = text_of e ≡ error_text BadLength
IsContentOf Unexpected e = text_of e ≡ error_text Unexpected
IsContentOf Trailing e = text_of e ≡ error_text Trailing
IsContentOf OutOfMemory e = text_of e ≡ error_text OutOfMemory

-- K says of no octets two errors of different kinds
abbrev pub HasOneKind : (List ℕ → DecodeError → Type 0) → Type 0
HasOneKind K = (s : List ℕ) (d e : DecodeError) → K s d → K s e → error_number d ≡ error_number e

-- K says of no octets two errors
abbrev pub HasOneError : (List ℕ → DecodeError → Type 0) → Type 0
HasOneError K = (s : List ℕ) (d e : DecodeError) → K s d → K s e → d ≡ e

-- two errors are of one kind, and have one text
abbrev pub AreSame : DecodeError → DecodeError → Type 0
AreSame d e = (error_number d ≡ error_number e) × (error_text d ≡ error_text e)

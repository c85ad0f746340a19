-- The value at the front of octets, as a function of them: by it a type that keeps octets says what they stand for.
use Rattle.std.specs.Prelude.{ℕ, List, [], take, drop, Result, Ok, Err}
use Rattle.rpki_der.specs.declared.error.DecodeError.{DecodeError}
use Rattle.rpki_der.specs.declared.tag.Header.{Header}
use Rattle.rpki_der.specs.HeaderReading.{header_at}

abbrev contents_behind : Result (Header × List ℕ) DecodeError → List ℕ
contents_behind (Ok x) = take x.0.length x.1
contents_behind (Err e) = []

abbrev rest_behind : Result (Header × List ℕ) DecodeError → List ℕ
rest_behind (Ok x) = drop x.0.length x.1
rest_behind (Err e) = []

-- its contents; none where no header begins the octets
unfoldable pub front_contents : List ℕ → List ℕ
front_contents s = contents_behind (header_at s)

-- what follows it
unfoldable pub after_front : List ℕ → List ℕ
after_front s = rest_behind (header_at s)

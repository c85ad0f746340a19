-- The numbers and the texts of what can be wrong with a URI.
use Rattle.std.specs.Prelude.{ℕ, List, codes}
use Rattle.rpki_text.specs.declared.uri.error.Error.{Error}
use Rattle.rpki_text.specs.declared.uri.error.Error.TheVariants.{InvalidCharacters, BadUri, LongUri, BadScheme}
use Rattle.rpki_text.specs.declared.uri.error.Error.TheVariants.{DotSegments, EmptySegments, LongSegments, OutOfMemory}

abbrev pub error_number : Error → ℕ
error_number InvalidCharacters = 1
error_number BadUri = 2
error_number LongUri = 3
error_number BadScheme = 4
error_number DotSegments = 5
error_number EmptySegments = 6
error_number LongSegments = 7
error_number OutOfMemory = 8

abbrev pub error_text : Error → List ℕ
error_text InvalidCharacters = codes "invalid characters"
error_text BadUri = codes "bad URI"
error_text LongUri = codes "URI exceeds 3072 characters"
error_text BadScheme = codes "bad URI scheme"
error_text DotSegments = codes "URI with dot path segments"
error_text EmptySegments = codes "URI with empty path segments"
error_text LongSegments = codes "one or more segments are longer than 255 characters"
error_text OutOfMemory = codes "out of memory"

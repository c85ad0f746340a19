-- What is reported of a fault.
use Rattle.std.specs.Prelude.{ℕ, ◌+◌, List, [], ◌∷◌, ◌++◌, codes}
use Rattle.rpki_der.specs.declared.error.DecodeError.{DecodeError}
use Rattle.rpki_der.specs.declared.error.DecodeError.TheVariants.{Truncated, BadTag, BadLength, Unexpected, Content}
use Rattle.rpki_der.specs.declared.error.DecodeError.TheVariants.{Trailing}
use Rattle.rpki_der.specs.declared.error.DecodeError.TheVariants as der
use Rattle.rpki_der.specs.Error.{error_number}
use Rattle.rpki_text.specs.declared.uri.error.Error.{Error}
use Rattle.rpki_text.specs.declared.uri.error.Error.TheVariants as uri
use Rattle.rpki_text.specs.ErrorText.{error_number as uri_error_number}
use Rattle.rpkibasic.specs.declared.input.Unread.{Unread}
use Rattle.rpkibasic.specs.declared.input.Unread.TheVariants as unread
use Rattle.rpkibasic.specs.declared.fault.Fault.{Fault}
use Rattle.rpkibasic.specs.declared.fault.Fault.TheVariants.{Usage, Refused, RefusedUri, TooLong, OutOfMemory, Input}
use Rattle.rpkibasic.specs.declared.fault.Fault.TheVariants.{Output}

abbrev pub usage_text : List ℕ
usage_text = codes "usage: rpkibasic again|data|key|uri|ext|name\n"

-- the line of a fault, up to the number where the input is rejected
abbrev pub text_of : Fault → List ℕ
text_of Usage = usage_text
text_of (Refused e) = codes "refused "
text_of (RefusedUri e) = codes "refused "
text_of TooLong = codes "too long\n"
text_of OutOfMemory = codes "out of memory\n"
text_of Input = codes "input could not be read\n"
text_of Output = codes "output could not be written\n"

-- the number and the end of the line where the input is rejected
abbrev pub number_text : Fault → List ℕ
number_text (Refused e) = (48 + error_number e) ∷ 10 ∷ []
number_text (RefusedUri e) = (48 + uri_error_number e) ∷ 10 ∷ []
number_text Usage = []
number_text TooLong = []
number_text OutOfMemory = []
number_text Input = []
number_text Output = []

-- the line of a fault
abbrev pub line : Fault → List ℕ
line fault = text_of fault ++ number_text fault

-- the exit status
abbrev pub status_of : Fault → ℕ
status_of Usage = 2
status_of (Refused e) = 1
status_of (RefusedUri e) = 1
status_of TooLong = 1
status_of OutOfMemory = 1
status_of Input = 1
status_of Output = 1

-- the fault of a reader's error
abbrev pub refusal : DecodeError → Fault
refusal Truncated = Refused Truncated
refusal BadTag = Refused BadTag
refusal BadLength = Refused BadLength
refusal Unexpected = Refused Unexpected
refusal (Content e) = Refused (Content e)
refusal Trailing = Refused Trailing
refusal der.OutOfMemory = OutOfMemory

-- the fault of a text that is not a URI
abbrev pub uri_refusal : Error → Fault
uri_refusal uri.InvalidCharacters = RefusedUri uri.InvalidCharacters
uri_refusal uri.BadUri = RefusedUri uri.BadUri
uri_refusal uri.LongUri = RefusedUri uri.LongUri
uri_refusal uri.BadScheme = RefusedUri uri.BadScheme
uri_refusal uri.DotSegments = RefusedUri uri.DotSegments
uri_refusal uri.EmptySegments = RefusedUri uri.EmptySegments
uri_refusal uri.LongSegments = RefusedUri uri.LongSegments
uri_refusal uri.OutOfMemory = OutOfMemory

-- the fault of an input that was not read to its end
abbrev pub unread_fault : Unread → Fault
unread_fault unread.OutOfMemory = OutOfMemory
unread_fault unread.Endless = Input
unread_fault (unread.Failed e) = Input

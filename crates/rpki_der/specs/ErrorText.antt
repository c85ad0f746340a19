-- The texts of errors.
use Rattle.std.specs.Prelude.{ℕ, List, codes}
use denote.Bor.{Bor}
use Rattle.rpki_der.specs.declared.error.ContentError.{ContentError}
use Rattle.rpki_der.specs.declared.error.DecodeError.{DecodeError}
use Rattle.rpki_der.specs.declared.error.DecodeError.TheVariants.{Truncated, BadTag, BadLength, Unexpected, Content}
use Rattle.rpki_der.specs.declared.error.DecodeError.TheVariants.{Trailing, OutOfMemory}

-- the text of an error of contents, in octets
abbrev pub text_of : ContentError → List ℕ
text_of e = e.text.now

-- the error of contents with this text
abbrev pub content_error : Bor (List ℕ) → DecodeError
content_error text = Content (record { text = text })

-- the text of an error: of one of contents, its own
abbrev pub error_text : DecodeError → List ℕ
error_text Truncated = codes "truncated value"
error_text BadTag = codes "malformed tag"
error_text BadLength = codes "malformed length"
error_text Unexpected = codes "unexpected value"
error_text (Content e) = text_of e
error_text Trailing = codes "trailing data"
error_text OutOfMemory = codes "out of memory"

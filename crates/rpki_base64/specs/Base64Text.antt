-- Octets as base 64 text (RFC 4648 sections 4 and 5), in the flavours of the engines of `base64`.
use Rattle.std.specs.Prelude.{◌≡◌, ℕ, Bool, not, List, Option, Some, None, codes, filter, slice_index, if◌then◌else◌}
use Rattle.std.specs.declared.result.Result.{Result}
use Rattle.std.specs.declared.result.Result.TheVariants.{Err}
use Rattle.std.specs.Char.{is_ascii_whitespace}
use Rattle.std.specs.Str.{is_utf8}
use Rattle.std.specs.Str.Lossy.{utf8_valid_len}
use Rattle.base64.specs.declared.decode.DecodeError.{DecodeError}
use Rattle.base64.specs.declared.decode.DecodeError.TheVariants.{InvalidByte}
use Rattle.base64.specs.declared.decode.DecodeAllocError.{DecodeAllocError}
use Rattle.base64.specs.declared.decode.DecodeAllocError.TheVariants.{DecodeError as Failed, OutOfMemory as NoMemory}
use Rattle.base64.specs.Engines.{standard, url_safe_no_pad_indifferent}
use Rattle.base64.specs.GeneralPurpose.{decode_of, encode_of}
use Rattle.rpki_base64.specs.declared.flavours.Base64Error.{Base64Error}
use Rattle.rpki_base64.specs.declared.flavours.Base64Error.TheVariants.{Refused, OutOfMemory}
use Rattle.rpki_base64.specs.declared.flavours.SlurmDisplay.{SlurmDisplay}
use Rattle.rpki_base64.specs.declared.flavours.XmlDecodeError.{XmlDecodeError}

-- no space, tab, line feed, form feed or carriage return
abbrev pub is_no_white_space : ℕ → Bool
is_no_white_space b = not (is_ascii_whitespace b)

-- the text without these
abbrev pub without_white_space : List ℕ → List ℕ
without_white_space text = filter is_no_white_space text

-- what a text stands for: offsets of errors count in the text without white space
abbrev pub xml_decode_of : List ℕ → Result (List ℕ) DecodeError
xml_decode_of text = decode_of standard (without_white_space text)

-- what is wrong with octets that are no text: the octet after their longest beginning that is text
abbrev pub no_text_error : List ℕ → DecodeError
no_text_error bytes = InvalidByte (utf8_valid_len bytes) (slice_index bytes (utf8_valid_len bytes))

-- the same of octets, which may be no text
abbrev pub xml_bytes_decode_of : List ℕ → Result (List ℕ) DecodeError
xml_bytes_decode_of bytes =
    if is_utf8 bytes then xml_decode_of bytes else Err (no_text_error bytes)

-- the error of a decoding, against what should come out: allocation may fail at any time
abbrev pub IsBase64Failure : Result (List ℕ) DecodeError → Base64Error → Type 0
IsBase64Failure outcome (Refused error) = outcome ≡ Err error
IsBase64Failure outcome OutOfMemory = Unit {0}

-- what an error of the XML flavour was caused by
abbrev pub xml_cause : XmlDecodeError → Base64Error
xml_cause error = error.cause

-- how an error prints: for a text that is rejected that is left to the library `base64`
abbrev pub base64_error_text : Base64Error → Option (List ℕ)
base64_error_text (Refused error) = None
base64_error_text OutOfMemory = Some (codes "out of memory")

-- the same error in this crate's words
abbrev pub base64_error : DecodeAllocError → Base64Error
base64_error (Failed error) = Refused error
base64_error NoMemory = OutOfMemory

-- what a value to be printed prints
abbrev pub slurm_text : SlurmDisplay → List ℕ
slurm_text shown = encode_of url_safe_no_pad_indifferent shown.bytes.now

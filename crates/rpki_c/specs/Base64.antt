-- What a status says of texts in base 64 (RFC 4648 4 and 5).
use Rattle.std.specs.Prelude.{◌≡◌, ◌⊎◌, ◌<◌, ℕ, zero, suc, Bool, true, false, List, length, Ok, Err}
use Rattle.std.specs.Str.{is_utf8}
use Rattle.std.specs.declared.result.Result.{Result}
use Rattle.base64.specs.declared.decode.DecodeError.{DecodeError}
use Rattle.base64.specs.Engines.{standard, url_safe_no_pad_indifferent}
use Rattle.base64.specs.GeneralPurpose.{encode_of, decode_of}
use Rattle.rpki_base64.specs.Base64Text.{xml_bytes_decode_of}
use Rattle.rpki_c.specs.Status.{out_of_memory}
use Rattle.rpki_c.specs.Stored.{IsStored}
use Rattle.rpki_c.specs.Uri.{IsUnwritten}

-- the text of octets
abbrev pub encoded_of : Bool → List ℕ → List ℕ
encoded_of true octets = encode_of url_safe_no_pad_indifferent octets
encoded_of false octets = encode_of standard octets

-- what a text stands for in a flavour: of XML documents, of serialized values, or of SLURM files
abbrev pub decoded_of : ℕ → List ℕ → Result (List ℕ) DecodeError
decoded_of zero text = xml_bytes_decode_of text
decoded_of (suc zero) text = decode_of standard text
decoded_of (suc (suc n)) text = decode_of url_safe_no_pad_indifferent text

-- how an error is passed
abbrev pub base64_number : DecodeError → ℕ
base64_number (DecodeError.InvalidByte at octet) = 40
base64_number (DecodeError.InvalidLength at) = 41
base64_number (DecodeError.InvalidLastSymbol at octet value) = 42
base64_number DecodeError.InvalidPadding = 43

-- where it is, in a text of this length
abbrev pub base64_place : DecodeError → ℕ → ℕ
base64_place (DecodeError.InvalidByte at octet) size = at
base64_place (DecodeError.InvalidLength at) size = at
base64_place (DecodeError.InvalidLastSymbol at octet value) size = at
base64_place DecodeError.InvalidPadding size = size

-- What is told of a text of this size: the octets are stored; or the text is not base 64, the status and `at` say why
-- and where, and nothing was written.
abbrev pub IsDecodedTo : Result (List ℕ) DecodeError → ℕ → ℕ → List ℕ → List ℕ → ℕ → ℕ → ℕ → ℕ → Type 0
IsDecodedTo (Ok octets) size status old new before after at_old at_new =
    IsStored octets status old new after × (at_new ≡ at_old)
IsDecodedTo (Err e) size status old new before after at_old at_new =
    (status ≡ base64_number e) × (at_new ≡ base64_place e size) × IsUnwritten old new before after

-- the most characters of a text that is read without memory
abbrev pub most_short : ℕ
most_short = 128

-- where memory is taken: for a longer text; in XML documents if it is UTF-8
abbrev pub TakesMemory : ℕ → List ℕ → Type 0
TakesMemory zero text = (most_short < length text) × (is_utf8 text ≡ true)
TakesMemory (suc n) text = most_short < length text

-- The octets are stored, or it is told why there are none. 7: memory is taken, and allocation failed; then nothing was
-- written.
abbrev pub IsDecoded : List ℕ → ℕ → ℕ → List ℕ → List ℕ → ℕ → ℕ → ℕ → ℕ → Type 0
IsDecoded text flavour status old new before after at_old at_new =
    IsDecodedTo (decoded_of flavour text) (length text) status old new before after at_old at_new
    ⊎ (TakesMemory flavour text × (status ≡ out_of_memory) × IsUnwritten old new before after × (at_new ≡ at_old))

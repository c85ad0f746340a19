-- Certificates and revocation lists in the textual encoding of RFC 7468.
use Rattle.std.specs.Prelude.{ℕ, nat_eq, nat_lt, ◌-◌, ◌==◌, ◌||◌, ◌&&◌, not, Bool, if◌then◌else◌, List, [], ◌∷◌, length}
use Rattle.std.specs.Prelude.{take, drop, map, filter, take_while, codes, ◌++◌, Option, Some, None, is_some}
use Rattle.rpkicert.specs.declared.pem.TextKind.{TextKind}
use Rattle.rpkicert.specs.declared.pem.TextKind.TheVariants as T
use Rattle.std.specs.List.{starts_with}
use Rattle.std.specs.Option.{is_none}
use Rattle.std.specs.Result.{result_ok}
use Rattle.base64.specs.Engines.{standard}
use Rattle.base64.specs.GeneralPurpose.{decode_of}

abbrev pub begin_line : List ℕ
begin_line = codes "-----BEGIN CERTIFICATE-----"

abbrev pub end_line : List ℕ
end_line = codes "-----END CERTIFICATE-----"

-- those of a revocation list (RFC 7468 6)
abbrev pub begin_list : List ℕ
begin_list = codes "-----BEGIN X509 CRL-----"

abbrev pub end_list : List ℕ
end_list = codes "-----END X509 CRL-----"

-- a text begins with the first line of one of them
abbrev pub begins : List ℕ → Bool
begins text = starts_with nat_eq text begin_line || starts_with nat_eq text begin_list

-- of a text that begins so: how long that line is, the last line, and how long that is
abbrev pub begin_size : List ℕ → ℕ
begin_size text = if starts_with nat_eq text begin_list then 24 else 27

abbrev pub end_of : List ℕ → List ℕ
end_of text = if starts_with nat_eq text begin_list then end_list else end_line

abbrev pub end_size : List ℕ → ℕ
end_size text = if starts_with nat_eq text begin_list then 22 else 25

-- space, tab, line feed and carriage return
abbrev pub is_space : ℕ → Bool
is_space octet = nat_eq octet 32 || nat_eq octet 9 || nat_eq octet 10 || nat_eq octet 13

-- up to the first hyphen
abbrev pub before_hyphen : List ℕ → List ℕ
before_hyphen text = take_while (λ octet. not (octet == 45)) text

abbrev pub without_space : List ℕ → List ℕ
without_space text = filter (λ octet. not (is_space octet)) text

-- the text from the first line on that begins a certificate or a list; None where there is none
unfoldable pub from_begin : List ℕ → Option (List ℕ)
from_begin [] = None
from_begin (octet ∷ text) =
    if begins (octet ∷ text) then Some (octet ∷ text) else from_begin text

-- The octets of the one certificate or list in a text that begins with it: the first line, its octets in base 64 (RFC
-- 4648 4) with white space anywhere, the last line, and text that begins no other (RFC 7468 2). None of any other text.
abbrev pub pem_octets : List ℕ → Option (List ℕ)
pem_octets text =
    let rest = drop (begin_size text) text in
    let body = before_hyphen rest in
    let tail = drop (length body) rest in
    if starts_with nat_eq tail (end_of text) && is_none (from_begin (drop (end_size text) tail))
    then result_ok (decode_of standard (without_space body)) else None

-- it begins as a text of RFC 7468, or has the first line of a certificate or a list
abbrev pub is_pem : List ℕ → Bool
is_pem text = is_some (from_begin text) || starts_with nat_eq text (codes "-----BEGIN")

-- the octets of a text, and of its end from the line on that begins a certificate or a list, where it has one
abbrev pub text_octets : List ℕ → Option (List ℕ) → Option (List ℕ)
text_octets input (Some text) = pem_octets text
text_octets input None = if starts_with nat_eq input (codes "-----BEGIN") then None else Some input

-- The octets that an input stands for: itself where it begins with the identifier octet of a SEQUENCE (X.690 8.9), as a
-- certificate does; else those of the certificate or list in it, with any text in front (RFC 7468 2); else itself,
-- unless it begins as another text of RFC 7468.
abbrev pub octets_of : List ℕ → Option (List ℕ)
octets_of input = if starts_with nat_eq input (48 ∷ []) then Some input else text_octets input (from_begin input)

-- ---- texts of other kinds

-- the text begins with the first line of this label (RFC 7468 2)
abbrev pub begins_as : (label text : List ℕ) → Bool
begins_as label text = starts_with nat_eq text (codes "-----BEGIN " ++ label ++ codes "-----")

-- it begins with that of a private key (RFC 7468 10, 11; PKCS #1 and RFC 5915 4 have labels of their own)
abbrev pub begins_with_key : List ℕ → Bool
begins_with_key text =
    begins_as (codes "PRIVATE KEY") text || begins_as (codes "ENCRYPTED PRIVATE KEY") text
    || begins_as (codes "RSA PRIVATE KEY") text || begins_as (codes "EC PRIVATE KEY") text

-- what a text has, by its first line (RFC 7468 7 to 13)
abbrev pub kind_of_text : List ℕ → TextKind
kind_of_text text =
    if begins_with_key text then T.PrivateKey
    else if begins_as (codes "PUBLIC KEY") text then T.PublicKey
    else if begins_as (codes "CERTIFICATE REQUEST") text || begins_as (codes "NEW CERTIFICATE REQUEST") text
    then T.Request
    else if begins_as (codes "CMS") text || begins_as (codes "PKCS7") text then T.SignedData
    else T.Other

-- ---- several certificates or lists

-- the ends of a text that begin with a first line, in order
unfoldable pub begun_in : List ℕ → List (List ℕ)
begun_in [] = []
begun_in (octet ∷ text) =
    if begins (octet ∷ text) then (octet ∷ text) ∷ begun_in text else begun_in text

-- what a text has in front of this end of it; all of it without one
abbrev pub up_to : List ℕ → Option (List ℕ) → List ℕ
up_to text None = text
up_to text (Some end) = take (length text - length end) text

-- the texts of the certificates in a text: each from its first line to the next first line; text that explains the next
-- is with the one in front (RFC 7468 2, 5.1)
abbrev pub certificate_texts : List ℕ → List (List ℕ)
certificate_texts text = map (λ begun. up_to begun (from_begin (drop 1 begun))) (begun_in text)

-- these texts, if there are several
abbrev pub several : List (List ℕ) → Option (List (List ℕ))
several texts = if nat_lt 1 (length texts) then Some texts else None

-- the texts of the certificates in an input that has several; None of octets that begin as a SEQUENCE
abbrev pub bundle_in : List ℕ → Option (List (List ℕ))
bundle_in input = if starts_with nat_eq input (48 ∷ []) then None else several (certificate_texts input)

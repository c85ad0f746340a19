-- Trust anchor locators (RFC 8630 2.2): comments, URIs, an empty line, and a key in base 64.
use Rattle.std.specs.Prelude.{ℕ, ◌≡◌, ◌==◌, ◌+◌, ◌-◌, ◌||◌, ◌&&◌, not, Bool, true, false, if◌then◌else◌, nat_eq}
use Rattle.std.specs.Prelude.{nat_lt, List, [], ◌∷◌, length, take, drop, map, flat_map, Option, Some, None, Result, Ok}
use Rattle.std.specs.Prelude.{Err}
use Rattle.std.specs.List.{slice_split, starts_with, ends_with, prefix_len}
use Rattle.std.specs.Option.{is_none}
use Rattle.base64.specs.declared.decode.DecodeError.{DecodeError as TextError}
use Rattle.base64.specs.Engines.{standard}
use Rattle.base64.specs.GeneralPurpose.{decode_of}
use Rattle.rpki_text.specs.RsyncText.{rsync_refusal, path_of}
use Rattle.rpki_text.specs.HttpsText.{https_refusal}
use Rattle.rpki_text.specs.Segments.{is_dir}
use Rattle.rpki_der.specs.declared.error.DecodeError.{DecodeError}
use Rattle.rpki_der.specs.Prelude.{TakesWhole}
use Rattle.rpki.specs.PublicKey.{KeyParts, SpellsKey}
use Rattle.rpki.specs.KeyFault.{key}
use Rattle.rpki_locator.specs.declared.anchor_uri.AnchorUri.{AnchorUri}
use Rattle.rpki_locator.specs.declared.error.LocatorError.{LocatorError}
use Rattle.rpki_locator.specs.declared.error.LocatorError.TheVariants.{OtherUri, NoUri, NoKey, OtherText, OtherKey}
use Rattle.rpki_locator.specs.declared.error.LocatorError.TheVariants.{OutOfMemory}

-- ---- lines

-- a line feed ends a line
abbrev pub ends_line : ℕ → Bool
ends_line octet = nat_eq octet 10

-- a line without the carriage return at its end, which belongs to its line break
abbrev pub without_return : List ℕ → List ℕ
without_return line = if ends_with nat_eq line (13 ∷ []) then take (length line - 1) line else line

-- what follows the last line feed is a line too, which may be empty
abbrev pub lines_of : List ℕ → List (List ℕ)
lines_of text = map without_return (slice_split ends_line text)

-- a comment begins with a number sign
abbrev pub is_comment : List ℕ → Bool
is_comment line = starts_with nat_eq line (35 ∷ [])

abbrev pub is_filled : List ℕ → Bool
is_filled line = not (length line == 0)

-- ---- URIs

-- an rsync URI of a single object, not of a folder; or an https URI
abbrev pub is_anchor_uri : List ℕ → Bool
is_anchor_uri line =
    (is_none (rsync_refusal line) && not (is_dir (path_of line))) || is_none (https_refusal line)

-- ---- the text

-- the URIs, the number of the line that the key begins in, and its octets
pub record TextParts : Type 0 where
  pub uris : List (List ℕ)
  pub line : ℕ
  pub key : List ℕ

abbrev pub text_parts : List (List ℕ) → ℕ → List ℕ → TextParts
text_parts uris line key = record { uris = uris; line = line; key = key }

-- the digits of the lines together
abbrev pub key_digits : List (List ℕ) → List ℕ
key_digits lines = flat_map (λ line. line) lines

-- the key of the lines after the empty one, the first of which has this number
abbrev pub key_text : List (List ℕ) → ℕ → Result (List ℕ) TextError → Result TextParts LocatorError
key_text uris number (Ok key) = Ok (text_parts uris number key)
key_text uris number (Err e) = Err (OtherText number)

-- the key after the URIs and the empty line, which has this number
abbrev pub key_part : List (List ℕ) → ℕ → List (List ℕ) → Result TextParts LocatorError
key_part uris number [] = Err (NoKey number)
key_part uris number (line ∷ lines) = key_text uris (number + 1) (decode_of standard (key_digits lines))

-- these URIs after so many comments, and what follows them
abbrev pub uri_part : ℕ → List (List ℕ) → List (List ℕ) → Result TextParts LocatorError
uri_part comments uris rest =
    if length uris == 0 then Err (NoUri (comments + 1))
    else if nat_lt (prefix_len is_anchor_uri uris) (length uris)
    then Err (OtherUri (comments + (prefix_len is_anchor_uri uris + 1)))
    else key_part uris (comments + length uris + 1) rest

abbrev pub comment_part : ℕ → List (List ℕ) → Result TextParts LocatorError
comment_part comments named =
    uri_part comments (take (prefix_len is_filled named) named) (drop (prefix_len is_filled named) named)

abbrev pub lines_part : List (List ℕ) → Result TextParts LocatorError
lines_part lines = comment_part (prefix_len is_comment lines) (drop (prefix_len is_comment lines) lines)

-- what a text says: comments; one URI at least, a line each; an empty line; and the octets of the key in base 64 with
-- padding (RFC 4648 4), in any number of lines. Or what is wrong with it first, with the number of its line.
abbrev pub locator_text : List ℕ → Result TextParts LocatorError
locator_text text = lines_part (lines_of text)

-- ---- the locator

-- the text of a URI
abbrev pub uri_text : AnchorUri → List ℕ
uri_text (AnchorUri.Rsync uri) = uri
uri_text (AnchorUri.Https uri) = uri

-- the line is this URI; None where it is no URI that a locator may have
abbrev pub IsUriOf : List ℕ → Option AnchorUri → Type 0
IsUriOf line None = is_anchor_uri line ≡ false
IsUriOf line (Some uri) = (is_anchor_uri line ≡ true) × (uri_text uri ≡ line)

-- the same of an https URI alone
abbrev pub IsHttpsOf : List ℕ → Option AnchorUri → Type 0
IsHttpsOf line None = is_none (https_refusal line) ≡ false
IsHttpsOf line (Some uri) = (is_none (https_refusal line) ≡ true) × (uri_text uri ≡ line)

-- each of the lines is a URI that a locator may have, and these are their texts
abbrev pub AreUrisOf : List (List ℕ) → List (List ℕ) → Type 0
AreUrisOf lines texts = (texts ≡ lines) × (prefix_len is_anchor_uri lines ≡ length lines)

-- the first of the lines that isn't one, by its number, where so many are in front of them
abbrev pub IsFirstOther : List (List ℕ) → ℕ → LocatorError → Type 0
IsFirstOther lines before (OtherUri line) =
    (nat_lt (prefix_len is_anchor_uri lines) (length lines) ≡ true)
    × (line ≡ before + (prefix_len is_anchor_uri lines + 1))
IsFirstOther lines before (NoUri line) = ⊥
IsFirstOther lines before (NoKey line) = ⊥
IsFirstOther lines before (OtherText line) = ⊥
IsFirstOther lines before (OtherKey line e) = ⊥
IsFirstOther lines before OutOfMemory = Unit {0}

-- the octets are no key, and this is what is wrong with them, by the number of the line
abbrev pub IsNoKey : List ℕ → ℕ → LocatorError → Type 0
IsNoKey octets before (OtherUri line) = ⊥
IsNoKey octets before (NoUri line) = ⊥
IsNoKey octets before (NoKey line) = ⊥
IsNoKey octets before (OtherText line) = ⊥
IsNoKey octets before (OtherKey line e) = (line ≡ before) × TakesWhole {X = KeyParts} (λ k. k) key octets (Err e)
IsNoKey octets before OutOfMemory = Unit {0}

-- the text has these URIs, and octets that are this key (SubjectPublicKeyInfo, RFC 5280 4.1)
abbrev pub IsLocator : List ℕ → List (List ℕ) → KeyParts → Type 0
IsLocator text uris key =
    (line : ℕ) × (octets : List ℕ) × (locator_text text ≡ Ok (text_parts uris line octets)) × SpellsKey key octets

-- its octets are no key, and this is the first thing that is wrong with them
abbrev pub IsOtherKey : List ℕ → ℕ → DecodeError → Type 0
IsOtherKey text line e =
    (parts : TextParts) × (locator_text text ≡ Ok parts) × (line ≡ parts.line)
    × TakesWhole {X = KeyParts} (λ k. k) key parts.key (Err e)

-- what is wrong with a text that is no locator
abbrev pub IsLocatorError : List ℕ → LocatorError → Type 0
IsLocatorError text (OtherUri line) = locator_text text ≡ Err (OtherUri line)
IsLocatorError text (NoUri line) = locator_text text ≡ Err (NoUri line)
IsLocatorError text (NoKey line) = locator_text text ≡ Err (NoKey line)
IsLocatorError text (OtherText line) = locator_text text ≡ Err (OtherText line)
IsLocatorError text (OtherKey line e) = IsOtherKey text line e
IsLocatorError text OutOfMemory = Unit {0}

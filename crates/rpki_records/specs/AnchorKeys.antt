-- Trust anchor keys (RFC 9691 3.2), as a function of their octets: what is found, or the leftmost malformed part.
--
-- TAK ::= SEQUENCE {
--     version      INTEGER DEFAULT 0,
--     current      TAKey,
--     predecessor  [0] TAKey OPTIONAL,
--     successor    [1] TAKey OPTIONAL }
--
-- TAKey ::= SEQUENCE {
--     comments              SEQUENCE SIZE (0..MAX) OF UTF8String,
--     certificateURIs       SEQUENCE SIZE (1..MAX) OF IA5String,
--     subjectPublicKeyInfo  SubjectPublicKeyInfo }
use Rattle.std.specs.Prelude.{ℕ, true, List, Option, Some, None, Result, Ok, Err, if◌then◌else◌, nat_eq}
use Rattle.rpki_der.specs.Prelude.{TagName, bit_string, integer, oid, sequence}
use Rattle.rpki_der.specs.TagName.{ia5_string, utf8_string}
use Rattle.rpki_der.specs.Parts.{optional_of}
use Rattle.rpki_parse.specs.Words.{Parser, bind}
use Rattle.rpki_parse.specs.Value.{ended, tagged, value_at}
use Rattle.rpki_parse.specs.Leaf.{bits_in, ia5_in, leaf_at, oid_in, utf8_in}
use Rattle.rpki_parse.specs.Optional.{optional_at}
use Rattle.rpki_parse.specs.Fold.{fold_at}
use Rattle.rpki_locator.specs.Locator.{is_anchor_uri}
use Rattle.rpki_records.specs.declared.anchor_key.AnchorKey.{AnchorKey}
use Rattle.rpki_records.specs.declared.tak.TakPart.{TakPart}
use Rattle.rpki_records.specs.declared.tak.TakPart.TheVariants as P
use Rattle.rpki_records.specs.declared.tak.TakView.{TakView}
use Rattle.rpki_records.specs.Checklist.{first_tag, second_tag}
use Rattle.rpki_parse.specs.Parts.{at_part}

-- ---- a key (3.2.2)

-- a comment, and comments that are all of s: how many they are
abbrev pub comment_at : Parser (List ℕ)
comment_at = leaf_at utf8_string utf8_in

abbrev pub skip_comment_at : Parser (Unit {0})
skip_comment_at s = bind (comment_at s) (λ t. Ok (tt, t.1))

unfoldable pub comments_at : List ℕ → Result ℕ ℕ
comments_at s = bind (fold_at (λ _. skip_comment_at) tt s) (λ n. Ok n.1)

-- a URI as a locator may have it (RFC 8630 2.2), and URIs that are all of s: how many they are, one at least
abbrev pub uri_at : Parser (List ℕ)
uri_at s = bind (leaf_at ia5_string ia5_in s) (λ t. if is_anchor_uri t.0 then Ok t else Err 5)

abbrev pub skip_uri_at : Parser (Unit {0})
skip_uri_at s = bind (uri_at s) (λ t. Ok (tt, t.1))

unfoldable pub uris_at : List ℕ → Result ℕ ℕ
uris_at s = bind (fold_at (λ _. skip_uri_at) tt s) (λ n. if nat_eq n.1 0 then Err 5 else Ok n.1)

-- SubjectPublicKeyInfo (RFC 5280 4.1.2.7): an identifier of an algorithm, whose parameters may be any, and a BIT STRING
abbrev pub algorithm_at : Parser (Unit {0})
algorithm_at s = bind (value_at sequence true s) (λ c. bind (leaf_at oid oid_in c.0) (λ o. Ok (tt, c.1)))

unfoldable pub key_at : Parser (Unit {0})
key_at s =
    bind (value_at sequence true s) (λ c.
    bind (algorithm_at c.0) (λ a.
    bind (leaf_at bit_string bits_in a.1) (λ b.
    bind (ended b.1) (λ _. Ok (tt, c.1)))))

-- the octets of one, which is all of s
abbrev pub whole_key : List ℕ → Result (List ℕ) ℕ
whole_key s = bind (key_at s) (λ k. bind (ended k.1) (λ _. Ok s))

-- what is found of a key: the octets of comments and of URIs, how many these are, and the octets of the key itself
pub record FoundKey : Type 0 where
  pub comments : List ℕ
  pub comment_count : ℕ
  pub uris : List ℕ
  pub uri_count : ℕ
  pub key : List ℕ

abbrev pub found_key : AnchorKey → FoundKey
found_key x = record {
  comments = x.comments.now;
  comment_count = x.comment_count;
  uris = x.uris.now;
  uri_count = x.uri_count;
  key = x.key.now;
}

-- the parts of a key, which are all of s
abbrev pub key_parts : List ℕ → Result FoundKey ℕ
key_parts s =
    bind (value_at sequence true s) (λ c.
    bind (comments_at c.0) (λ m.
    bind (value_at sequence true c.1) (λ u.
    bind (uris_at u.0) (λ n.
    bind (whole_key u.1) (λ k.
    Ok (record { comments = c.0; comment_count = m; uris = u.0; uri_count = n; key = k }))))))

-- TAKey
unfoldable pub anchor_key_at : Parser FoundKey
anchor_key_at s = bind (value_at sequence true s) (λ c. bind (key_parts c.0) (λ k. Ok (k, c.1)))

-- ---- the whole (3.2.1)

-- the version: 0, which is never written, since it is the default (X.690 11.5)
abbrev pub version_at : Parser (Unit {0})
version_at s = if tagged integer s then Err 5 else Ok (tt, s)

-- a key under an explicit tag, and nothing else there
abbrev pub key_under : TagName → Parser FoundKey
key_under t s =
    bind (value_at t true s) (λ c.
    bind (anchor_key_at c.0) (λ k.
    bind (ended k.1) (λ _. Ok (k.0, c.1))))

abbrev pub predecessor_at : Parser (Option FoundKey)
predecessor_at = optional_at first_tag (key_under first_tag)

abbrev pub successor_at : Parser (Option FoundKey)
successor_at = optional_at second_tag (key_under second_tag)

-- what is found
pub record FoundTak : Type 0 where
  pub current : FoundKey
  pub predecessor : Option FoundKey
  pub successor : Option FoundKey

abbrev pub found_tak : TakView → FoundTak
found_tak x = record {
  current = found_key x.current;
  predecessor = optional_of found_key x.predecessor;
  successor = optional_of found_key x.successor;
}

-- the parts, which are all of s
abbrev pub tak_parts : List ℕ → Result FoundTak (TakPart × ℕ)
tak_parts s =
    bind (at_part P.Version (version_at s)) (λ v.
    bind (at_part P.Current (anchor_key_at v.1)) (λ c.
    bind (at_part P.Predecessor (predecessor_at c.1)) (λ p.
    bind (at_part P.Successor (successor_at p.1)) (λ n.
    bind (at_part P.Tak (ended n.1)) (λ _.
    Ok (record { current = c.0; predecessor = p.0; successor = n.0 }))))))

-- TAK: all of s
abbrev pub tak : List ℕ → Result FoundTak (TakPart × ℕ)
tak s =
    bind (at_part P.Tak (value_at sequence true s)) (λ c.
    bind (at_part P.Tak (ended c.1)) (λ _.
    tak_parts c.0))

-- ---- cursors over comments and URIs

-- the text in front and what follows it; none where there is none, and then nothing is read
abbrev pub given_text : List ℕ → Result (List ℕ × List ℕ) ℕ → Option (List ℕ) × List ℕ
given_text s (Ok t) = (Some t.0, t.1)
given_text s (Err e) = (None, s)

abbrev pub given_comment_at : List ℕ → Option (List ℕ) × List ℕ
given_comment_at s = given_text s (comment_at s)

abbrev pub given_uri_at : List ℕ → Option (List ℕ) × List ℕ
given_uri_at s = given_text s (uri_at s)

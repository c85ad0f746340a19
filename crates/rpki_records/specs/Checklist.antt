-- Signed checklists (RFC 9323 4), as a function of their octets: what is found, or the leftmost malformed part.
--
-- RpkiSignedChecklist ::= SEQUENCE {
--     version [0]      INTEGER DEFAULT 0,
--     resources        ResourceBlock,
--     digestAlgorithm  DigestAlgorithmIdentifier,
--     checkList        SEQUENCE (SIZE (1..MAX)) OF FileNameAndHash }
--
-- FileNameAndHash ::= SEQUENCE {
--     fileName  PortableFilename OPTIONAL,
--     hash      OCTET STRING }
use Rattle.std.specs.Prelude.{ℕ, Bool, true, ◌&&◌, ◌||◌, List, Option, Some, None, Result, Ok, Err}
use Rattle.std.specs.Prelude.{if◌then◌else◌, length, nat_eq, nat_lt, eqb}
use Rattle.std.specs.List.{list_all}
use Rattle.std.specs.Char.{is_ascii_alphanumeric}
use Rattle.std.specs.Option.{option_copied}
use Rattle.rpki_der.specs.declared.tag.Class.TheVariants.{Context}
use Rattle.rpki_der.specs.Prelude.{TagName, tag_of, null, octet_string, oid, sequence}
use Rattle.rpki_der.specs.TagName.{ia5_string}
use Rattle.rpki_parse.specs.Words.{Parser, bind}
use Rattle.rpki_parse.specs.Value.{ended, tagged, value_at}
use Rattle.rpki_parse.specs.Leaf.{ia5_in, leaf_at, null_in, only_in, sized_in}
use Rattle.rpki_parse.specs.Optional.{optional_at}
use Rattle.rpki_parse.specs.Fold.{fold_at}
use Rattle.rpki.specs.Oids.{sha256}
use Rattle.rpki_records.specs.declared.checklist.Checklist.{Checklist}
use Rattle.rpki_records.specs.declared.checklist.Named.{Named}
use Rattle.rpki_records.specs.declared.checklist.ChecklistPart.{ChecklistPart}
use Rattle.rpki_records.specs.declared.checklist.ChecklistPart.TheVariants as P
use Rattle.rpki_records.specs.declared.listed_digest.ListedDigest.{ListedDigest}
use Rattle.rpki_parse.specs.Parts.{at_part}
use Rattle.rpki_records.specs.Words.{is_there}

-- the explicit tags [0] and [1]
abbrev pub first_tag : TagName
first_tag = tag_of Context 0

abbrev pub second_tag : TagName
second_tag = tag_of Context 1

-- ---- the version (4.1): 0, which is never written, since it is the default (X.690 11.5)

abbrev pub version_at : Parser (Unit {0})
version_at s = if tagged first_tag s then Err 5 else Ok (tt, s)

-- ---- the resources (4.2): what is under asID [0] and under ipAddrBlocks [1], one of them at least

abbrev pub under_first : Parser (Option (List ℕ))
under_first = optional_at first_tag (value_at first_tag true)

abbrev pub under_second : Parser (Option (List ℕ))
under_second = optional_at second_tag (value_at second_tag true)

abbrev pub named_of : Named → Option (List ℕ) × Option (List ℕ)
named_of x = (option_copied x.numbers, option_copied x.addresses)

abbrev pub resources_at : Parser (Option (List ℕ) × Option (List ℕ))
resources_at s =
    bind (value_at sequence true s) (λ c.
    bind (under_first c.0) (λ n.
    bind (under_second n.1) (λ a.
    bind (ended a.1) (λ _. if is_there n.0 || is_there a.0 then Ok ((n.0, a.0), c.1) else Err 5))))

-- ---- the algorithm (4.3): SHA-256 (RFC 7935 2), whose parameters are absent or NULL (RFC 5754 2)

abbrev pub algorithm_at : Parser (Unit {0})
algorithm_at s =
    bind (value_at sequence true s) (λ c.
    bind (leaf_at oid (only_in sha256) c.0) (λ o.
    bind (optional_at null (leaf_at null null_in) o.1) (λ n.
    bind (ended n.1) (λ _. Ok (tt, c.1)))))

-- ---- the files (4.4)

-- a letter, a digit, '.', '_' or '-': the portable filename character set (POSIX.1-2017 3.282)
abbrev pub is_portable_octet : ℕ → Bool
is_portable_octet x = is_ascii_alphanumeric x || (eqb x 46 || (eqb x 95 || eqb x 45))

abbrev pub are_portable : List ℕ → Bool
are_portable xs = list_all is_portable_octet xs

-- one of them at least
abbrev pub is_portable : List ℕ → Bool
is_portable name = nat_lt 0 (length name) && are_portable name

abbrev pub portable_at : Parser (List ℕ)
portable_at s = bind (leaf_at ia5_string ia5_in s) (λ t. if is_portable t.0 then Ok t else Err 5)

abbrev pub name_at : Parser (Option (List ℕ))
name_at = optional_at ia5_string portable_at

-- the name, where there is one, and the digest by SHA-256, of 32 octets
unfoldable pub file_at : Parser (Option (List ℕ) × List ℕ)
file_at s =
    bind (value_at sequence true s) (λ c.
    bind (name_at c.0) (λ n.
    bind (leaf_at octet_string (sized_in 32) n.1) (λ d.
    bind (ended d.1) (λ _. Ok ((n.0, d.0), c.1)))))

abbrev pub skip_file_at : Parser (Unit {0})
skip_file_at s = bind (file_at s) (λ f. Ok (tt, f.1))

-- all of s is files: how many they are, one at least
unfoldable pub count_at : List ℕ → Result ℕ ℕ
count_at s = bind (fold_at (λ _. skip_file_at) tt s) (λ n. if nat_eq n.1 0 then Err 5 else Ok n.1)

-- ---- the whole

-- what is found: the octets of AS numbers and of IP addresses under their tags, and those of the files
pub record FoundChecklist : Type 0 where
  pub numbers : Option (List ℕ)
  pub addresses : Option (List ℕ)
  pub files : List ℕ
  pub count : ℕ

abbrev pub found_checklist : Checklist → FoundChecklist
found_checklist x = record {
  numbers = option_copied x.numbers;
  addresses = option_copied x.addresses;
  files = x.files.now;
  count = x.count;
}

-- the parts, which are all of s
abbrev pub checklist_parts : List ℕ → Result FoundChecklist (ChecklistPart × ℕ)
checklist_parts s =
    bind (at_part P.Version (version_at s)) (λ v.
    bind (at_part P.Resources (resources_at v.1)) (λ r.
    bind (at_part P.DigestAlgorithm (algorithm_at r.1)) (λ a.
    bind (at_part P.CheckList (value_at sequence true a.1)) (λ f.
    bind (at_part P.CheckList (ended f.1)) (λ _.
    bind (at_part P.CheckList (count_at f.0)) (λ n.
    Ok (record { numbers = r.0.0; addresses = r.0.1; files = f.0; count = n })))))))

-- RpkiSignedChecklist: all of s
abbrev pub checklist : List ℕ → Result FoundChecklist (ChecklistPart × ℕ)
checklist s =
    bind (at_part P.Checklist (value_at sequence true s)) (λ c.
    bind (at_part P.Checklist (ended c.1)) (λ _.
    checklist_parts c.0))

-- ---- a cursor over files

abbrev pub file_of : ListedDigest → Option (List ℕ) × List ℕ
file_of x = (x.name, x.digest)

-- the file in front and what follows it; none where there is none, and then nothing is read
abbrev pub given_file : List ℕ → Result ((Option (List ℕ) × List ℕ) × List ℕ) ℕ
    → Option (Option (List ℕ) × List ℕ) × List ℕ
given_file s (Ok f) = (Some f.0, f.1)
given_file s (Err e) = (None, s)

abbrev pub given_file_at : List ℕ → Option (Option (List ℕ) × List ℕ) × List ℕ
given_file_at s = given_file s (file_at s)

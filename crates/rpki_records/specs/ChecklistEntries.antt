-- The files of a signed checklist differ (RFC 9323 4.4.1).
use Rattle.std.specs.Prelude.{ℕ, List, [], ◌∷◌, Option, None, Some, bytes_eq}
use Rattle.std.specs.List.{IsDistinct, flat_map}
use Rattle.rpki_records.specs.Checklist.{given_file_at}
use Rattle.rpki_records.specs.Words.{firsts}

-- a name, where there is one, and a digest
abbrev pub Entry : Type 0
Entry = Option (List ℕ) × List ℕ

-- the first n files of s, or as many as there are
abbrev pub entries : ℕ → List ℕ → List Entry
entries = firsts given_file_at

-- the name; the digest of a file without one
abbrev pub name_in : Entry → List (List ℕ)
name_in (None, d) = []
name_in (Some n, d) = n ∷ []

abbrev pub digest_in : Entry → List (List ℕ)
digest_in (None, d) = d ∷ []
digest_in (Some n, d) = []

-- no two names are the same, and no two digests of files without a name
pub record AreUnique (es : List Entry) : Type 0 where
  pub names : IsDistinct bytes_eq (flat_map name_in es)
  pub digests : IsDistinct bytes_eq (flat_map digest_in es)

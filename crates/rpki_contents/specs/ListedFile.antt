-- A file on a manifest: its name, and the digest of its octets (RFC 9286 4.2).
use Rattle.std.specs.Prelude.{◌≡◌, ℕ, Bool, List, bytes_eq, IsTrue}
use Rattle.std.specs.List.{IsDistinct}
use Rattle.rpki_der.specs.Prelude.{ia5_string, sequence, Format, octets_under, around, then, only}
use Rattle.rpki_der.specs.Prelude.{such, kept}
use Rattle.rpki_x509.specs.MessageDigest.{file_hash}
use Rattle.rpki_contents.specs.FileName.{is_file_name}

-- ---- the name, an IA5String

abbrev pub IsName : List ℕ → List ℕ → Type 0
IsName name octets = (name ≡ octets) × IsTrue (is_file_name octets)

abbrev pub file_name : Format (List ℕ)
file_name = such IsName (octets_under ia5_string)

-- the same, of a name that is kept
abbrev pub kept_name : Format (List ℕ)
kept_name = such IsName (kept (octets_under ia5_string))

-- ---- FileAndHash: a SEQUENCE of both

abbrev pub ListedFile : Type 0
ListedFile = List ℕ × List ℕ

abbrev pub file_parts : Format ListedFile
file_parts = then file_name (only file_hash)

abbrev pub file : Format ListedFile
file = around sequence file_parts

-- the same, of a name that is kept
abbrev pub kept_parts : Format ListedFile
kept_parts = then kept_name (only file_hash)

abbrev pub kept_file : Format ListedFile
kept_file = around sequence kept_parts

-- ---- files

-- a file has this name
abbrev pub is_named : List ℕ → ListedFile → Bool
is_named name x = bytes_eq x.0 name

-- no two files have the same name
abbrev pub AreDistinct : List ListedFile → Type 0
AreDistinct = IsDistinct (λ x y. bytes_eq x.0 y.0)

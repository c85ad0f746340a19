-- Where the objects of a repository are in a local copy.
use Rattle.std.specs.Prelude.{ℕ, List, [], ◌∷◌, ◌++◌, bytes_eq, codes, if◌then◌else◌, Option, Some, None}
use Rattle.std.specs.Option.{option_map, unwrap_or}
use Rattle.std.specs.Path.{path_file_name}
use Rattle.std.specs.Str.Lossy.{utf8_lossy}
use Rattle.rpki_text.specs.declared.uri.error.Error.{Error}
use Rattle.rpki_text.specs.RsyncText.{RsyncUri, rsync_refusal, uri_of}
use Rattle.rpki_text.specs.Segments.{path_text}
use Rattle.rpki_validation.specs.Snapshot.{Published}

-- four parts of a path
abbrev pub joined : List ℕ → List ℕ → List ℕ → List ℕ → List ℕ
joined folder first second rest = folder ++ 47 ∷ first ++ 47 ∷ second ++ 47 ∷ rest

-- the folder of a host: `ta` has what was fetched for locators, and that of a host `ta` its absolute name (RFC 1034
-- 3.1)
abbrev pub host_folder : List ℕ → List ℕ
host_folder host = if bytes_eq host (codes "ta") then codes "ta." else host

-- the object at rsync://HOST/MODULE/PATH is FOLDER/HOST/MODULE/PATH
abbrev pub object_path : List ℕ → RsyncUri → List ℕ
object_path folder uri =
    joined folder (host_folder uri.authority) uri.module_name (path_text uri.segments uri.is_dir)

-- the name of the file that a path leads to; nothing where it leads to none
abbrev pub file_in : List ℕ → List ℕ
file_in path = unwrap_or (path_file_name path) []

-- what was fetched for the locator NAME from a URI whose last segment is FILE is FOLDER/ta/NAME/FILE
abbrev pub fetched_path : List ℕ → List ℕ → List ℕ → List ℕ
fetched_path folder name text = joined folder (codes "ta") name (file_in (utf8_lossy text))

-- the object at the URI that a text is, if it is an rsync URI
abbrev pub object_by : Option Error → (List ℕ → Option (List ℕ)) → (folder text : List ℕ) → Option (List ℕ)
object_by None files folder text = files (object_path folder (uri_of text))
object_by (Some e) files folder text = None

abbrev pub object_at : (List ℕ → Option (List ℕ)) → (folder text : List ℕ) → Option (List ℕ)
object_at files folder text = object_by (rsync_refusal text) files folder text

-- the first, or, where there is none, the other
abbrev pub or_other : Option (List ℕ) → Option (List ℕ) → Option (List ℕ)
or_other None other = other
or_other (Some octets) other = Some octets

-- a trust anchor at an rsync URI is the object at that; where there is none, and at an https URI, it was fetched
abbrev pub anchor_in : (List ℕ → Option (List ℕ)) → (folder name text : List ℕ) → Option (List ℕ)
anchor_in files folder name text = or_other (object_at files folder text) (files (fetched_path folder name text))

-- what the folder has, for the locator of this name
abbrev pub published_in : List ℕ → List ℕ → (List ℕ → Option (List ℕ)) → Published
published_in folder name files = record {
  objects = λ uri. files (object_path folder uri);
  anchors = λ text. anchor_in files folder name text;
}

-- the same, where it is known what files hold
abbrev pub copy_in : List ℕ → List ℕ → Option (List ℕ → Option (List ℕ)) → Option Published
copy_in folder name holds = option_map (published_in folder name) holds

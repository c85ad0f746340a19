-- The text of a URI with the places where its parts begin, which may be given by whoever asks.
use Rattle.std.specs.Prelude.{◌-◌, ◌&&◌, ℕ, List, Bool, drop, bytes_eq, slice_range}
use Rattle.rpki_text.specs.UriText.{lowercase}
use Rattle.rpki_text.specs.RsyncText.{IsCut, joined_by}
use Rattle.rpki_text.specs.HttpsText.{IsHttpsCut}
use Rattle.rpki_text.specs.declared.uri.joined.Joined.{Joined}
use Rattle.rpki_text.specs.declared.uri.rsync_cut.RsyncCut.{RsyncCut}
use Rattle.rpki_text.specs.declared.uri.https_cut.HttpsCut.{HttpsCut}

abbrev pub cut_text : RsyncCut → List ℕ
cut_text u = u.text.now

-- the parts of the text by these places, whatever the text is
abbrev pub authority_in : RsyncCut → List ℕ
authority_in u = slice_range u.text.now 8 (u.places.module_start - 1)

abbrev pub module_name_in : RsyncCut → List ℕ
module_name_in u = slice_range u.text.now u.places.module_start (u.places.path_start - 1)

abbrev pub path_in : RsyncCut → List ℕ
path_in u = drop u.places.path_start u.text.now

-- both have the same authority, ignoring case, and the same module
abbrev pub same_module_in : RsyncCut → RsyncCut → Bool
same_module_in u v =
    bytes_eq (lowercase (authority_in u)) (lowercase (authority_in v)) && bytes_eq (module_name_in u) (module_name_in v)

-- nothing is wrong with the text but perhaps its length, and these are its own places
abbrev pub IsOwn : RsyncCut → Type 0
IsOwn u = IsCut u.text.now u.places.module_start u.places.path_start

abbrev pub https_cut_text : HttpsCut → List ℕ
https_cut_text u = u.text.now

-- the parts of the text by this place, whatever the text is
abbrev pub https_authority_in : HttpsCut → List ℕ
https_authority_in u = slice_range u.text.now 8 u.path_start

abbrev pub https_path_in : HttpsCut → List ℕ
https_path_in u = drop u.path_start u.text.now

-- the text is an https URI, and this is its own place
abbrev pub IsOwnHttps : HttpsCut → Type 0
IsOwnHttps u = IsHttpsCut u.text.now u.path_start

-- the octets that are written: a text, perhaps a slash, and a path
abbrev pub joined_text : Joined → List ℕ
joined_text j = joined_by j.slash j.base.now j.path.now

-- The path from one URI to another, by the two texts.
use Rattle.std.proofs.Common.{◌≡◌, ℕ, true, false, ◌&&◌, List, None, bytes_eq, refl}
use Rattle.std.specs.Option.{option_map}
use Rattle.rpki_text.specs.Segments.{segments, is_dir, path_text}
use Rattle.rpki_text.specs.UriText.{lowercase}
use Rattle.rpki_text.specs.RsyncText.{authority_of, module_name_of, path_of, uri_of, relative, strip_prefix}

pub relative-other-module : (u v : List ℕ)
    → (bytes_eq (lowercase (authority_of u)) (lowercase (authority_of v)) && bytes_eq (module_name_of u)
    (module_name_of v)) ≡ false
    → relative (uri_of u) (uri_of v) ≡ None
unfolding relative uri_of
relative-other-module u v h = rw h refl

pub relative-same_module : (u v : List ℕ)
    → (bytes_eq (lowercase (authority_of u)) (lowercase (authority_of v)) && bytes_eq (module_name_of u)
    (module_name_of v)) ≡ true
    → relative (uri_of u) (uri_of v) ≡ option_map (λ left. path_text left (is_dir (path_of u)))
    (strip_prefix (segments (path_of u)) (segments (path_of v)))
unfolding relative uri_of
relative-same_module u v h = rw h refl

-- The names of the two schemes (RFC 3986 section 3.1).
use Rattle.std.specs.Prelude.{ℕ, Bool, true, false, List, codes}
use Rattle.rpki_text.specs.declared.uri.scheme.Scheme.{Scheme}
use Rattle.rpki_text.specs.declared.uri.scheme.Scheme.TheVariants.{Https, Rsync}

abbrev pub scheme_name : Scheme → List ℕ
scheme_name Https = codes "https"
scheme_name Rsync = codes "rsync"

-- how a URI of the scheme begins
abbrev pub scheme_text : Scheme → List ℕ
scheme_text Https = codes "https://"
scheme_text Rsync = codes "rsync://"

abbrev pub is_https_scheme : Scheme → Bool
is_https_scheme Https = true
is_https_scheme Rsync = false

abbrev pub is_rsync_scheme : Scheme → Bool
is_rsync_scheme Https = false
is_rsync_scheme Rsync = true

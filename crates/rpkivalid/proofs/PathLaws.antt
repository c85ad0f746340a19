-- The path of an object, from the text of its URI.
use Rattle.std.proofs.Common.{◌≡◌, ℕ, List, ap, sym}
use Rattle.rpki_text.specs.RsyncText.{authority_of, module_name_of, path_of, uri_of}
use Rattle.rpki_text.specs.SegmentLaws.{path_text-segments}
use Rattle.rpki_text.specs.UriText.{lowercase}
use Rattle.rpkivalid.specs.Paths.{host_folder, joined, object_path}

pub object-parts : (folder text host name path : List ℕ) → host ≡ host_folder (lowercase (authority_of text))
    → name ≡ module_name_of text → path ≡ path_of text
    → joined folder host name path ≡ object_path folder (uri_of text)
unfolding uri_of
object-parts folder text host name path h n p =
    rw (h, n, p)
    (ap (λ (q : List ℕ). joined folder (host_folder (lowercase (authority_of text))) (module_name_of text) q)
    (sym (path_text-segments (path_of text))))

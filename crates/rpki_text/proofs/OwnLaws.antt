-- Texts with places that are their own.
use Rattle.std.proofs.Common.{◌≡◌, ◌&&◌, ◌<◌, ◌++◌, ◌∷◌, [], ℕ, List, Bool, true, false, bytes_eq, not, length}
use Rattle.std.proofs.Common.{sym, ap, ◌∙◌, refl, arith}
use Rattle.std.proofs.lemmas.List.{append-nil}
use Rattle.rpki_text.specs.Segments.{is_dir, with_slash}
use Rattle.rpki_text.specs.UriText.{lowercase}
use Rattle.rpki_text.specs.RsyncText.{IsCut, authority_of, module_name_of, path_of, same_module_of, uri_of, same_uri}
use Rattle.rpki_text.specs.RsyncText.{joined, joined_by}
use Rattle.rpki_text.specs.HttpsText.{IsHttpsCut, https_authority, https_path, https_uri_of, same_https, ends_in_slash}
use Rattle.rpki_text.specs.HttpsText.{https_joined, https_into_dir}
use Rattle.rpki_text.specs.SameUriLaws.{same_uri-texts}
use Rattle.rpki_text.specs.Places.{AreStarts, IsHttpsStart}
use Rattle.rpki_text.specs.Cuts.{cut_text, authority_in, module_name_in, path_in, same_module_in, IsOwn}
use Rattle.rpki_text.specs.Cuts.{https_cut_text, https_authority_in, https_path_in, IsOwnHttps}
use Rattle.rpki_text.specs.declared.uri.rsync_cut.RsyncCut.{RsyncCut}
use Rattle.rpki_text.specs.declared.uri.https_cut.HttpsCut.{HttpsCut}
use Rattle.rpki_text.proofs.CutLaws.{cut-facts}
use Rattle.rpki_text.proofs.PlaceLaws.{authority-at, module_name-at, https_authority-at}
use Rattle.rpki_text.proofs.HttpsPartLaws.{https-halves, https_joined-flag, https_into_dir-dir, https_into_dir-open}
use Rattle.rpki_text.proofs.JoinLaws.{with_slash-flag}
use Rattle.rpki_text.proofs.JoinedLaws.{marked-filled}

-- what is cut at its own places is laid out
pub own-starts : (t : List ℕ) (m p : ℕ) → IsCut t m p → AreStarts (length t) m p
own-starts t m p c =
    let facts = cut-facts t m p c in
    record {
      authority = omega (arith, facts.authority);
      module_name = omega (arith, facts.module_name);
      path = facts.fits;
    }

pub own-authority : (u : RsyncCut) → IsOwn u → authority_in u ≡ authority_of (cut_text u)
own-authority u c = let at = authority-at _ _ _ c in at.octets

pub own-module_name : (u : RsyncCut) → IsOwn u → module_name_in u ≡ module_name_of (cut_text u)
own-module_name u c = let at = module_name-at _ _ _ c in at.octets

pub own-path : (u : RsyncCut) → IsOwn u → path_in u ≡ path_of (cut_text u)
own-path u c = let facts = cut-facts _ _ _ c in sym facts.path_is

-- the test of the module, by the texts
pub own-module : (u v : RsyncCut) → IsOwn u → IsOwn v
    → same_module_in u v ≡ same_module_of (cut_text u) (cut_text v)
own-module u v a b = rw (own-authority u a, own-authority v b, own-module_name u a, own-module_name v b) refl

-- the test of equality, by the texts
pub own-same : (u v : RsyncCut) → IsOwn u → IsOwn v
    → (same_module_in u v && bytes_eq (path_in u) (path_in v)) ≡ same_uri (uri_of (cut_text u)) (uri_of (cut_text v))
own-same u v a b = rw (own-module u v a b, own-path u a, own-path v b) (same_uri-texts (cut_text u) (cut_text v))

-- a path joined to a text, by the text's own path
pub own-joined : (u : RsyncCut) (p : List ℕ) → IsOwn u → 0 < length p
    → joined_by (not (is_dir (path_in u))) (cut_text u) p ≡ joined (cut_text u) p
own-joined u p a some = rw (own-path u a) (marked-filled (cut_text u) _ _ a p some)

-- a text with a slash last, by its own path
pub own-dir : (u : RsyncCut) → IsOwn u → joined_by (not (is_dir (path_in u))) (cut_text u) [] ≡ with_slash (cut_text u)
own-dir u a = rw (own-path u a) (append-nil _ ∙ with_slash-flag (cut_text u) _ _ a)

pub own-https-start : (t : List ℕ) (n : ℕ) → IsHttpsCut t n → IsHttpsStart (length t) n
own-https-start t n c =
    let h = https-halves t n c in record { authority = omega (arith, c.path_starts); path = h.fits }

pub own-https-authority : (u : HttpsCut) → IsOwnHttps u → https_authority_in u ≡ https_authority (https_cut_text u)
own-https-authority u c = let at = https_authority-at _ _ c in at.octets

pub own-https-path : (u : HttpsCut) → IsOwnHttps u → https_path_in u ≡ https_path (https_cut_text u)
own-https-path u c = let h = https-halves _ _ c in sym h.path

-- the test of equality, by the texts
pub own-https-same : (u v : HttpsCut) → IsOwnHttps u → IsOwnHttps v
    → (bytes_eq (lowercase (https_authority_in u)) (lowercase (https_authority_in v))
    && bytes_eq (https_path_in u) (https_path_in v))
    ≡ same_https (https_uri_of (https_cut_text u)) (https_uri_of (https_cut_text v))
unfolding https_uri_of
own-https-same u v a b =
    rw (own-https-authority u a, own-https-authority v b, own-https-path u a, own-https-path v b) refl

-- a path joined to a text, by the text's own path
pub own-https-joined : (u : HttpsCut) (p : List ℕ) → IsOwnHttps u
    → joined_by (not (ends_in_slash (https_path_in u))) (https_cut_text u) p ≡ https_joined (https_cut_text u) p
own-https-joined u p a = rw (own-https-path u a) (https_joined-flag (https_cut_text u) p)

-- the text as a directory, by whether it is one
https-marked : (t : List ℕ) (b : Bool) → is_dir (https_path t) ≡ b → joined_by (not b) t [] ≡ https_into_dir t
https-marked t true h = append-nil t ∙ sym (https_into_dir-dir t h)
https-marked t false h = append-nil (t ++ 47 ∷ []) ∙ sym (https_into_dir-open t h)

-- a text with a slash last, by its own path
pub own-https-dir : (u : HttpsCut) → IsOwnHttps u
    → joined_by (not (is_dir (https_path_in u))) (https_cut_text u) [] ≡ https_into_dir (https_cut_text u)
own-https-dir u a = https-marked (https_cut_text u) _ (ap is_dir (sym (own-https-path u a)))

-- Where certificates say that a revocation list is, and a folder, and what a manifest's certificate has to name (RFC
-- 6487 4.8.6, 4.8.8.1).
use Rattle.std.specs.Prelude.{◌≡◌, ◌↔◌, ◌⊎◌, ℕ, List, Option, Some, None, Result, MatchResult}
use Rattle.rpki_text.specs.RsyncText.{join_refusal, joined, rsync_refusal, uri_of}
use Rattle.rpki_cert.specs.declared.read.cert_part.CertPart.{CertPart}
use Rattle.rpki_cert.specs.Access.{HasUri, SpellsPoints, SpellsRsyncAccess, ca_repository, first_rsync, named}
use Rattle.rpki_cert.specs.Cert.{CertParts, SpellsCert}
use Rattle.rpki_cert.specs.Known.{crl_distribution_points, subject_info_access}
use Rattle.rpki_cert.specs.View.{IsCertWrong}
use Rattle.rpki_c.specs.declared.authority.Authority.{Authority}
use Rattle.rpki_c.specs.Status.{no_issuer, other_list_uri}

-- ---- what a certificate says

-- where the revocation list of its issuer is (RFC 6487 4.8.6)
abbrev pub NamesList : CertParts → List ℕ → Type 0
NamesList x uri = HasUri crl_distribution_points SpellsPoints x.tbs.extensions (Some uri)

-- where its subject publishes (RFC 6487 4.8.8.1)
abbrev pub Publishes : CertParts → List ℕ → Type 0
Publishes x uri = HasUri subject_info_access (SpellsRsyncAccess ca_repository) x.tbs.extensions (Some uri)

-- the one URI that is said, if one is
abbrev pub IsPlace : (List ℕ → Type 0) → Option (List ℕ) → Type 0
IsPlace Says place = (uri : List ℕ) → Says uri ↔ (place ≡ Some uri)

-- the first rsync URI of a folder, of access descriptions by their methods and names
abbrev pub first_folder : List (List ℕ × Option (List ℕ)) → Option (List ℕ)
first_folder xs = first_rsync (named ca_repository xs)

-- ---- the file that is named

-- A file of this name is in the folder at this URI: it can be joined to that of the folder, and gives the same URI.
-- Those that differ in the case of the scheme and the host alone are the same (RFC 5781 2).
pub record IsFileIn (folder name place : List ℕ) : Type 0 where
  pub short : join_refusal folder name ≡ None
  pub same : uri_of place ≡ uri_of (joined folder name)

-- both are said, rsync URIs, and the first is that of the file of this name in the second
pub record IsAt (place folder : Option (List ℕ)) (name : List ℕ) : Type 0 where
  pub uri : List ℕ
  pub stands : place ≡ Some uri
  pub is_uri : rsync_refusal uri ≡ None
  pub home : List ℕ
  pub lies : folder ≡ Some home
  pub is_home : rsync_refusal home ≡ None
  pub file : IsFileIn home name uri

-- The certificate says that the list of its issuer is the file of this name where the authority publishes.
pub record NamesFile (by : Authority) (x : CertParts) (name : List ℕ) : Type 0 where
  pub issuer : CertParts
  pub above : SpellsCert issuer by.certificate.octets.now
  pub folder : List ℕ
  pub publishes : Publishes issuer folder
  pub place : List ℕ
  pub names : NamesList x place
  pub is : IsFileIn folder name place

-- a test of that; 152: the authority's certificate is none; 49: the certificate names another file, or none
abbrev pub TestsName : Authority → CertParts → List ℕ → Result (Unit {0}) ℕ → Type 0
TestsName by x name r =
    MatchResult r (λ _. NamesFile by x name)
    (λ status. ((status ≡ no_issuer) × (q : CertPart) × IsCertWrong by.certificate.octets.now q)
    ⊎ ((status ≡ other_list_uri) × (NamesFile by x name → ⊥)))

-- What a status says of a certificate below an authority of a path: its profile, its issuer, the moment of the path,
-- and the revocation list (RFC 5280 6.1.3, RFC 6487 7.2).
use Rattle.std.specs.Prelude.{◌≡◌, ◌≢◌, ◌⊎◌, ℕ, true, false, List, Result, MatchResult}
use Rattle.jiff.specs.Types.{DateTime}
use Rattle.sha1.specs.Sha1.{sha1}
use Rattle.sha2.specs.Sha256.{sha256}
use Rattle.rpki.specs.Provider.{Check, Checkers}
use Rattle.rpki_rsa.specs.Key.{IsSignatureBy}
use Rattle.rpki_cert.specs.declared.read.cert_part.CertPart.{CertPart}
use Rattle.rpki_cert.specs.declared.profile.Profile.{Profile}
use Rattle.rpki_cert.specs.declared.extension.known_view.KnownView.{KnownView}
use Rattle.rpki_cert.specs.Cert.{CertParts, SpellsCert}
use Rattle.rpki_cert.specs.View.{IsCertWrong}
use Rattle.rpki_cert.specs.KnownView.{AreKnown}
use Rattle.rpki_cert.specs.Profile.{HasProfile}
use Rattle.rpki_crl.specs.Crl.{Entry, each_entry, is_revoked}
use Rattle.rpki_crl.specs.CrlView.{AreEntriesFault}
use Rattle.rpki_valid.specs.Valid.{IsIssued as IsIssuedWith}
use Rattle.rpki_c.specs.declared.authority.Authority.{Authority}
use Rattle.rpki_c.specs.CertificateProfile.{IsRefusedAs}
use Rattle.rpki_c.specs.Issued.{IsToldApart, NamesIssuer, IsToldSigned}
use Rattle.rpki_c.specs.Made.{IsPossible, IsTimeOf}
use Rattle.rpki_c.specs.Moments.{IsToldOf}
use Rattle.rpki_c.specs.Status.{no_issuer, content, no_list, revoked}
use Rattle.rpki_c.specs.Whole.{IsRefused}

-- ---- the checks of signatures, as the layer names them

-- a signature by RSA with PKCS #1 v1.5 padding and SHA-256 (RFC 7935 2, RFC 8017 8.2.2)
abbrev pub rsa : Check
rsa = λ bits message signature. IsSignatureBy bits (sha256 message) signature

-- nothing of the RPKI is signed by ECDSA (RFC 7935 2)
abbrev pub ecdsa : Check
ecdsa = λ bits message signature. ⊥

-- both, and the digests (FIPS 180-4)
abbrev pub checkers : Checkers
checkers = record { rsa = rsa; ecdsa = ecdsa; sha1 = sha1; sha256 = sha256 }

-- the first has issued the second, which is valid at the moment, but for resources and revocation
abbrev pub IsIssued : CertParts → DateTime → CertParts → Type 0
IsIssued issuer at x = IsIssuedWith checkers issuer.tbs at x

-- ---- one status after another

-- the status of the first, where that is not 0; else that of the second
abbrev pub Then : (ℕ → Type 0) → (ℕ → Type 0) → ℕ → Type 0
Then first second status = ((status ≢ 0) × first status) ⊎ (first 0 × second status)

-- ---- whether the issuer has issued it, and whether it is revoked

-- 153, 154: the issuer has another name, or another key. Else 57, 52, 53: it has not signed it; 50, 51: it has, and the
-- moment is outside of the period.
abbrev pub IsIssuedTold : CertParts → KnownView → CertParts → DateTime → ℕ → Type 0
IsIssuedTold x known issuer at status =
    IsToldApart x issuer known status
    ⊎ (NamesIssuer x issuer known × Then (IsToldSigned x issuer known) (IsToldOf x.tbs.validity at) status)

-- Of the entries of a list, which are all of the octets, and a serial number. 62: it is among them. 1 to 6: the octets
-- are no entries.
abbrev pub IsListedIn : List ℕ → ℕ → ℕ → Type 0
IsListedIn s n status =
    IsRefused each_entry.spells AreEntriesFault s status
    ⊎ ((xs : List Entry) × each_entry.spells xs s
    × (((status ≡ 0) × (is_revoked n xs ≡ false)) ⊎ ((status ≡ revoked) × (is_revoked n xs ≡ true))))

-- the same of the list of the authority; 45: it has none
abbrev pub IsListedBy : Authority → ℕ → ℕ → Type 0
IsListedBy by n status =
    ((by.has_list ≡ false) × (status ≡ no_list))
    ⊎ ((by.has_list ≡ true) × IsListedIn by.revoked_certs.octets.now n status)

-- 152: the authority's certificate is none. 5: its moment is none. Else as above.
abbrev pub IsBelowTold : Authority → CertParts → KnownView → ℕ → Type 0
IsBelowTold by x known status =
    ((status ≡ no_issuer) × (q : CertPart) × IsCertWrong by.certificate.octets.now q)
    ⊎ ((issuer : CertParts) × SpellsCert issuer by.certificate.octets.now
    × (((status ≡ content) × (IsPossible by.moment → ⊥))
    ⊎ ((at : DateTime) × IsTimeOf by.moment at
    × Then (IsIssuedTold x known issuer at) (IsListedBy by x.tbs.serial) status)))

-- ---- a certificate that is valid below the authority, but for its resources

-- It has the profile (RFC 6487 4); the authority's certificate has issued it, valid at the moment of the path; and the
-- authority's list, which has these entries, doesn't have it (RFC 6487 7.2).
pub record IsBelow (profile : Profile) (by : Authority) (x : CertParts) : Type 0 where
  pub profiled : HasProfile profile true x.tbs
  pub issuer : CertParts
  pub above : SpellsCert issuer by.certificate.octets.now
  pub at : DateTime
  pub moment : IsTimeOf by.moment at
  pub issued : IsIssued issuer at x
  pub has_list : by.has_list ≡ true
  pub entries : List Entry
  pub listed : each_entry.spells entries by.revoked_certs.octets.now
  pub unrevoked : is_revoked x.tbs.serial entries ≡ false

-- 80 to 119, 156 to 158: it doesn't have the profile. Else it does, and the status is as above.
abbrev pub IsNotBelow : Profile → Authority → List ℕ → CertParts → ℕ → Type 0
IsNotBelow profile by s x status =
    IsRefusedAs s profile true status
    ⊎ ((known : KnownView) × AreKnown x.tbs.extensions known × HasProfile profile true x.tbs
    × (status ≢ 0) × IsBelowTold by x known status)

-- a test of a certificate, which is all of s, that says what its extensions say
abbrev pub TestsBelow : Profile → Authority → List ℕ → CertParts → Result KnownView ℕ → Type 0
TestsBelow profile by s x r =
    MatchResult r (λ known. AreKnown x.tbs.extensions known × IsBelow profile by x) (IsNotBelow profile by s x)

-- What a certificate has in it.
use Rattle.std.proofs.Common.{ℕ, List, sym, subst, ◌≡◌, Bool, true, false, refl, Option, Some, None}
use Rattle.rpki_der.specs.Each.{SpellsEach}
use Rattle.rpki_time.specs.TimeValue.{SpellsTime}
use Rattle.rpki.specs.ExtensionValue.{SpellsExtension}
use Rattle.rpki_cert.specs.Cert.{CertParts, SpellsCert, is_there}
use Rattle.rpki_cert.specs.View.{IsCertAt}
use Rattle.rpki_cert.specs.declared.read.view.CertView.{CertView}
use Rattle.rpki_cert.specs.declared.profile.Profile.{Profile}
use Rattle.rpki_cert.specs.declared.profile.CheckError.{CheckError}
use Rattle.rpki_cert.specs.Profile.{IsCheckError}
use Rattle.rpki_c.specs.declared.certificate_extensions.KnownExtension.{KnownExtension}
use Rattle.rpki.specs.ExtensionValue.{ExtensionParts}
use Rattle.rpki_c.specs.Certificate.{IsKnownAs}
use Rattle.rpki_c.specs.CertificateProfile.{check_number, IsRefusedAs}
use Rattle.rpki_c.specs.CertificateProfile.IsRefusedAs.{WrongExtension, BrokenRule}
use Rattle.rpki_der.specs.declared.error.DecodeError.TheVariants.{OutOfMemory}
use Rattle.rpki_der.specs.Prelude.{oid, sequence, any_oid, only}
use Rattle.rpki_der.specs.Leaves.{IsOidOf}
use Rattle.rpki_der.specs.FirstFault.{IsEndFault}
use Rattle.rpki_der.proofs.FirstFaultLaws.{inside-no-memory, first-no-memory, end-no-memory}
use Rattle.rpki_der.proofs.LeavesLaws.{leaf-no-memory}
use Rattle.rpki_cert.specs.AccessDescription.{description, description_parts, general_name}
use Rattle.rpki_cert.proofs.GeneralNameLaws.{name-no-memory}

-- ---- What a certificate has in it

-- both times of the period
pub record Times (x : CertParts) : Type 0 where
  pub start : List ℕ
  pub end : List ℕ
  pub not_before : SpellsTime x.tbs.validity.not_before start
  pub not_after : SpellsTime x.tbs.validity.not_after end

pub times : (x : CertParts) (s : List ℕ) → SpellsCert x s → Times x
times x s h =
    let p = h.tbs.spelled.two.two.two.two.one.spelled in
    record { start = p.start; end = p.end; not_before = p.not_before; not_after = p.not_after }

-- the extensions of the certificate are those of the table
pub listed : {s : List ℕ} {v : CertView} {x : CertParts} → IsCertAt s v x
    → SpellsEach SpellsExtension x.tbs.extensions v.tbs.named.keyed.extensions
listed {s} {v} {x} h =
    subst (SpellsEach SpellsExtension x.tbs.extensions) (sym h.tbs.named.keyed.list_at)
    h.spelled.tbs.spelled.two.two.two.two.two.two.two.spelled.spelled.some.each

-- ---- Certificates that are checked against a profile

-- the error of a check of the octets that are the certificate
pub refused-as : {s : List ℕ} {profile : Profile} {strict : Bool} {status : ℕ} (x : CertParts) → SpellsCert x s
    → (e : CheckError) → IsCheckError profile strict x.tbs e → status ≡ check_number e
    → IsRefusedAs s profile strict status
refused-as x spelled (CheckError.Extension part) h is = WrongExtension part x is spelled h
refused-as x spelled (CheckError.Rule rule) h is =
    BrokenRule rule x h.0.0 is spelled h.0.1
    (record { cert = x; spelled = spelled; first = h.1; other = h.2 })

-- whether an extension is there
pub there-of : (found : Option ExtensionParts) (p : KnownExtension) → IsKnownAs found p → p.is_there ≡ is_there found
there-of None p h = h.0
there-of (Some x) p h = h.0

-- ---- Access descriptions take no memory

pub description-no-memory : (s : List ℕ) → description.fault s OutOfMemory → ⊥
description-no-memory s h =
    inside-no-memory sequence true description_parts.fault s
    (λ c k. first-no-memory any_oid.spells any_oid.fault (λ v. (only general_name).fault) c
    (λ m. leaf-no-memory oid false IsOidOf c OutOfMemory m refl)
    (λ v r l. first-no-memory general_name.spells general_name.fault (λ t. IsEndFault) r (λ m. name-no-memory r m)
    (λ t q. end-no-memory q) l) k) h

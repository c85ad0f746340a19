-- Certificates in the profile of the RPKI, and of other algorithms, as they are read one after the other.
use Rattle.std.proofs.Common.{◌≡◌, ℕ, true, false, List, refl, sym, ap, ◌∙◌, inr}
use Rattle.rpki_der.specs.declared.error.DecodeError.{DecodeError}
use Rattle.rpki_der.specs.Reading.{SpellsNothing}
use Rattle.rpki_der.proofs.ReadingLaws.{UnlessMemory-from, at-memory, is-out}
use Rattle.rpki.specs.declared.repository.error.ValidationError.TheVariants.{Decoding}
use Rattle.rpki_cert.specs.Cert.{SpellsCert}
use Rattle.rpki_cert.specs.CertFault.{IsCertFault}
use Rattle.rpki_cert.specs.Known.{is_memory}
use Rattle.rpki_fields.specs.declared.object.Object.TheVariants.{OtherCertificate}
use Rattle.rpki_fields.specs.OtherCert.{OtherCertParts, other_cert, cert_fields_of, has_other}
use Rattle.rpki_fields.specs.Object.{SpellsOnly, IsUnspelled, NoOtherCert, IsCertificate, IsNoCertificate}
use Rattle.rpki_fields.specs.Object.IsNoCertificate.{Neither}
use Rattle.rpki_fields.proofs.MemoryLaws.{unless-memory}
use Rattle.rpki_fields.proofs.OneObjectLaws.{one-other}

module _ (octets : List ℕ) (e : DecodeError) (u : IsUnspelled SpellsCert IsCertFault octets e) where
  -- there was no memory to read one of the RPKI
  pub out-of-memory : is_memory (Decoding e) ≡ true → IsNoCertificate octets e
  out-of-memory z = Neither u (at-memory e (NoOtherCert octets) (is-out e z))

  -- one of other algorithms
  pub is-other : (c : OtherCertParts) → is_memory (Decoding e) ≡ false → has_other c ≡ true
      → SpellsOnly other_cert.spells (cert_fields_of c) octets → IsCertificate octets (OtherCertificate c)
  is-other c z other h = inr (unless-memory (Decoding e) (SpellsNothing SpellsCert octets) z u.0, c, (h, other), refl)

  -- one whose algorithms are those of the RPKI
  pub not-other : (c : OtherCertParts) → has_other c ≡ false
      → SpellsOnly other_cert.spells (cert_fields_of c) octets → IsNoCertificate octets e
  not-other c same h = Neither u (UnlessMemory-from e none) where
    none : NoOtherCert octets
    none d k other =
        let is : d ≡ c = one-other d c (h.1 (cert_fields_of d) k) in
        let both : true ≡ false = sym other ∙ ap has_other is ∙ same in absurd cc

  -- there is none
  pub neither : (d : DecodeError) → is_memory (Decoding d) ≡ false
      → IsUnspelled other_cert.spells other_cert.fault octets d → IsNoCertificate octets e
  neither d z h =
      let nothing = unless-memory (Decoding d) (SpellsNothing other_cert.spells octets) z h.0 in
      Neither u (UnlessMemory-from e (λ c k other. nothing (cert_fields_of c) k))

-- Octets are one object of a kind at most, and none where a reader says so.
use Rattle.std.proofs.Common.{◌≡◌, ℕ, List, sym, ap, subst, ◌∙◌, inl, inr}
use Rattle.rpki_der.specs.declared.error.DecodeError.{DecodeError}
use Rattle.rpki_der.specs.declared.error.DecodeError.TheVariants as der
use Rattle.rpki_cert.specs.Cert.{CertParts}
use Rattle.rpki_contents.specs.Aspa.{AspaParts}
use Rattle.rpki_contents.specs.Manifest.{ManifestParts}
use Rattle.rpki_contents.specs.Roa.{AttestationParts}
use Rattle.rpki_crl.specs.Crl.{CrlParts}
use Rattle.rpki_objects.specs.SignedObject.{ObjectParts, ObjectFields, object_fields_of}
use Rattle.rpki_objects.specs.TypedObject.{TypedParts}
use Rattle.rpki_fields.specs.declared.object_type.ObjectType.{ObjectType}
use Rattle.rpki_fields.specs.declared.object_type.ObjectType.TheVariants as K
use Rattle.rpki_fields.specs.declared.object.Object.{Object}
use Rattle.rpki_fields.specs.declared.object.Object.TheVariants.{Certificate, Crl, Manifest, Roa}
use Rattle.rpki_fields.specs.declared.object.Object.TheVariants.{Aspa, SignedObject, OtherCertificate}
use Rattle.rpki_fields.specs.declared.object.Object.TheVariants.{Checklist, TrustAnchorKey, Ghostbusters}
use Rattle.rpki_fields.specs.OtherCert.{AlgorithmParts, AlgorithmFields, OtherCertParts, CertFields, cert_fields_of}
use Rattle.rpki_fields.specs.Object.{SpellsFields, IsOf, IsNone, IsCertificate, IsNoCertificate}
use Rattle.rpki_fields.specs.Object.IsNoCertificate.{Neither, Lacking}
use Rattle.rpki_fields.specs.Object.{IsNoObjectWith, IsObjectWith, SpellsOnly}
use Rattle.rpki_fields.specs.Object.IsNoObjectWith.{NoObject, OtherContent}
use Rattle.rpki_fields.specs.Record.{AreAnchorKeys, AreNoAnchorKeys, IsAnchorKeysFault, IsAnchorKeysObject}
use Rattle.rpki_fields.specs.Record.{IsCard, IsCardFault, IsCardObject, IsNoCard}
use Rattle.rpki_fields.specs.Record.{IsChecklist, IsChecklistFault, IsChecklistObject, IsNoChecklist}
use Rattle.rpki_records.specs.Identifiers.{anchor_keys_type, card_type, checklist_type}
use Rattle.rpki_der.proofs.ReadingLaws.{unless-memory}
use Rattle.rpki_fields.proofs.RecordLaws.{no-anchor-keys, no-card, no-checklist, no-content}

-- the object of these fields
abbrev object_from : ObjectFields → ObjectParts
object_from f = record {
  content = record { content_type = f.1.1.1.0.0; content = f.1.1.1.0.1 };
  cert = f.1.1.1.1.0;
  signer = record {
    identifier = f.1.1.1.1.1.1.0;
    attributes = f.1.1.1.1.1.1.1.1.0;
    signature = record { algorithm = f.1.1.1.1.1.1.1.1.1.0; value = f.1.1.1.1.1.1.1.1.1.1 };
  };
}

-- ---- signed objects whose content is read where it is shown

one-object : (octets : List ℕ) (o p : ObjectParts) → SpellsOnly SpellsFields (object_fields_of o) octets
    → SpellsOnly SpellsFields (object_fields_of p) octets → o ≡ p
one-object octets o p g h = ap object_from (h.1 _ g.0)

one-with : (P : ObjectParts → Type 0) (named : ObjectParts → Object) (octets : List ℕ) (x y : Object)
    → IsObjectWith P named octets x → IsObjectWith P named octets y → x ≡ y
one-with P named octets x y g h = g.3 ∙ ap named (one-object octets g.0 h.0 g.1 h.1) ∙ sym h.3

none-with : (P : ObjectParts → Type 0) (F : ObjectParts → DecodeError → Type 0)
    → ((o : ObjectParts) (e : DecodeError) → (e ≡ der.OutOfMemory → ⊥) → F o e → P o → ⊥)
    → (named : ObjectParts → Object) (octets : List ℕ) (e : DecodeError) (x : Object) → (e ≡ der.OutOfMemory → ⊥)
    → IsNoObjectWith F octets e → IsObjectWith P named octets x → ⊥
none-with P F none named octets e x z (NoObject n) g = unless-memory e z n.0 _ g.1.0
none-with P F none named octets e x z (OtherContent o s f) g =
    none g.0 e z (subst (λ (w : ObjectParts). F w e) (one-object octets o g.0 s g.1) f) g.2

-- ---- certificates

-- the certificate of any algorithms of these fields
abbrev algorithm_from : AlgorithmFields → AlgorithmParts
algorithm_from f = record { identifier = f.0; parameters = f.1 }

abbrev other_from : CertFields → OtherCertParts
other_from f = record {
  tbs = record {
    serial = f.0.1.0;
    algorithm = algorithm_from f.0.1.1.0;
    issuer = f.0.1.1.1.0;
    validity = f.0.1.1.1.1.0;
    subject = f.0.1.1.1.1.1.0;
    key = record { algorithm = algorithm_from f.0.1.1.1.1.1.1.0.0; bits = f.0.1.1.1.1.1.1.0.1 };
    optional = record {
      issuer_id = f.0.1.1.1.1.1.1.1.0;
      subject_id = f.0.1.1.1.1.1.1.1.1.0;
      extensions = f.0.1.1.1.1.1.1.1.1.1.0;
    };
  };
  algorithm = algorithm_from f.1.0;
  signature = f.1.1;
}

pub one-other : (c d : OtherCertParts) → cert_fields_of c ≡ cert_fields_of d → c ≡ d
one-other c d e = ap other_from e

one-certificate : (octets : List ℕ) (x y : Object) → IsCertificate octets x → IsCertificate octets y → x ≡ y
one-certificate octets x y (inl g) (inl h) =
    g.2 ∙ ap (λ (c : CertParts). Certificate c) (h.1.1 g.0 g.1.0) ∙ sym h.2
one-certificate octets x y (inl g) (inr h) = absurd (h.0 g.0 g.1.0)
one-certificate octets x y (inr g) (inl h) = absurd (g.0 h.0 h.1.0)
one-certificate octets x y (inr g) (inr h) =
    let same : g.1 ≡ h.1 = one-other g.1 h.1 (h.2.0.1 _ g.2.0.0) in
    g.3 ∙ ap (λ (c : OtherCertParts). OtherCertificate c) same ∙ sym h.3

-- none is there where a reader of those of the RPKI finds none, and one of others finds none
no-certificate : (octets : List ℕ) (e : DecodeError) (x : Object) → (e ≡ der.OutOfMemory → ⊥)
    → IsNoCertificate octets e → IsCertificate octets x → ⊥
no-certificate octets e x z (Neither n k) (inl g) = unless-memory e z n.0 g.0 g.1.0
no-certificate octets e x z (Neither n k) (inr g) = unless-memory e z k g.1 g.2.0.0 g.2.1
no-certificate octets e x z (Lacking y n) g = z y

pub one-of : (kind : ObjectType) (octets : List ℕ) (x y : Object) → IsOf kind octets x → IsOf kind octets y → x ≡ y
one-of K.Certificate octets x y g h = one-certificate octets x y g h
one-of K.Crl octets x y g h = g.2 ∙ ap (λ (l : CrlParts). Crl l) (h.1.1 g.0 g.1.0) ∙ sym h.2
one-of K.Manifest octets x y g h = g.2 ∙ ap (λ (m : TypedParts ManifestParts). Manifest m) (h.1.1 g.0 g.1.0) ∙ sym h.2
one-of K.Roa octets x y g h = g.2 ∙ ap (λ (r : TypedParts AttestationParts). Roa r) (h.1.1 g.0 g.1.0)
    ∙ sym h.2
one-of K.Aspa octets x y g h = g.2 ∙ ap (λ (a : TypedParts AspaParts). Aspa a) (h.1.1 g.0 g.1.0) ∙ sym h.2
one-of K.Checklist octets x y g h = one-with IsChecklistObject (λ o. Checklist o) octets x y g h
one-of K.TrustAnchorKey octets x y g h = one-with IsAnchorKeysObject (λ o. TrustAnchorKey o) octets x y g h
one-of K.Ghostbusters octets x y g h = one-with IsCardObject (λ o. Ghostbusters o) octets x y g h
one-of K.SignedObject octets x y g h =
    let same : g.0 ≡ h.0 = ap object_from (h.1.1 _ g.1.0) in
    g.2 ∙ ap (λ (o : ObjectParts). SignedObject o) same ∙ sym h.2

pub none-of : (kind : ObjectType) (octets : List ℕ) (e : DecodeError) (x : Object) → (e ≡ der.OutOfMemory → ⊥)
    → IsNone kind octets e → IsOf kind octets x → ⊥
none-of K.Certificate octets e x z n g = no-certificate octets e x z n g
none-of K.Crl octets e x z n g = unless-memory e z n.0 g.0 g.1.0
none-of K.Manifest octets e x z n g = unless-memory e z n.0 g.0
    g.1.0
none-of K.Roa octets e x z n g = unless-memory e z n.0 g.0 g.1.0
none-of K.Aspa octets e x z n g = unless-memory e z n.0 g.0 g.1.0
none-of K.Checklist octets e x z n g =
    none-with IsChecklistObject IsChecklistFault (no-content checklist_type IsChecklist IsNoChecklist no-checklist)
    (λ o. Checklist o) octets e x z n g
none-of K.TrustAnchorKey octets e x z n g =
    none-with IsAnchorKeysObject IsAnchorKeysFault
    (no-content anchor_keys_type AreAnchorKeys AreNoAnchorKeys no-anchor-keys) (λ o. TrustAnchorKey o) octets e x z n g
none-of K.Ghostbusters octets e x z n g =
    none-with IsCardObject IsCardFault (no-content card_type IsCard IsNoCard no-card) (λ o. Ghostbusters o) octets e x
    z n g
none-of K.SignedObject octets e x z n g = unless-memory e z n.0 _ g.1.0

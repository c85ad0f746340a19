-- A certificate has one list of fields.
use Rattle.std.proofs.Common.{◌≡◌, ℕ, Bool, true, false, List, sym, ap, ◌∙◌, subst, inl, inr}
use Rattle.std.specs.Prelude.{Option, Some, None, codes, decimal}
use Rattle.std.specs.Option.{option_map}
use Rattle.rpki_time.specs.Validity.{Period}
use Rattle.rpki.specs.declared.crypto.keys.PublicKeyFormat.{PublicKeyFormat}
use Rattle.rpki.specs.declared.crypto.keys.PublicKeyFormat.TheVariants.{Rsa, EcdsaP256}
use Rattle.rpki.specs.PublicKey.{KeyParts}
use Rattle.rpki.specs.KeyIdentifier.{SpellsKeyIdentifier}
use Rattle.rpki.specs.ExtensionValue.{ExtensionParts}
use Rattle.rpki.proofs.OneNameLaws.{one-name}
use Rattle.rpki_cert.specs.Cert.{TbsParts}
use Rattle.rpki_cert.specs.Known.{subject_key_identifier, key_usage, basic_constraints, crl_distribution_points}
use Rattle.rpki_cert.specs.Known.{certificate_policies, extended_key_usage}
use Rattle.rpki_x509.specs.Authority.{authority_key_identifier}
use Rattle.rpki_cert.specs.Known.{authority_info_access, subject_info_access, HasOnly, HasNone}
use Rattle.rpki_cert.specs.ExtensionContent.{SpellsConstraints, SpellsUsage, SpellsPurposes}
use Rattle.rpki_x509.specs.Authority.{SpellsAuthority}
use Rattle.rpki_cert.specs.ExtensionContent.{SpellsPolicies}
use Rattle.rpki_cert.specs.Access.{SpellsRsyncAccess, SpellsHttpsAccess, SpellsPoints, flat, HasUri, ca_issuers}
use Rattle.rpki_cert.specs.Access.{ca_repository, rpki_manifest, signed_object, rpki_notify}
use Rattle.rpki_resources.specs.declared.choice_view.ChoiceView.{ChoiceView}
use Rattle.rpki_resources.specs.declared.choice_view.ChoiceView.TheVariants.{Missing, Inherit, Blocks}
use Rattle.rpki_resources.specs.declared.ip_view.IpResourcesView.{IpResourcesView}
use Rattle.rpki_resources.specs.InPlace.{Octets}
use Rattle.rpki_resources.specs.ListText.{blocks_text}
use Rattle.rpki_fields.specs.Field.{FieldParts}
use Rattle.rpki_fields.specs.ValueText.{hex_digits, colon_digits, IsNumberText}
use Rattle.rpki_fields.specs.NameText.{parts_text, IsNameText}
use Rattle.rpki.specs.KeySize.{number_bits}
use Rattle.rpki.proofs.RsaPublicKeyLaws.{one-magnitude, one-numbers as numbers-of-bits}
use Rattle.rpki_fields.specs.KeySize.{IsRsaSize, IsSizeOf}
use Rattle.rpki_fields.specs.ResourceText.{IsListText, IsChoiceText, AreKind, AreFamilies, AreAsNumbers, AreAddresses}
use Rattle.rpki_fields.specs.ResourceText.{AreNumbers, AreResources}
use Rattle.rpki_fields.specs.CertText.{authority_text, usage_text, purposes_text, policy_text, AreHead, AreMiddle}
use Rattle.rpki_fields.specs.CertText.{section_of}
use Rattle.rpki_fields.specs.CertText.{AreKey, Says, SaysOnly, SaysUri, AreIdentifiers, AreUses, AreIssuerPlaces}
use Rattle.rpki_fields.specs.CertText.{AreSubjectPlaces, AreFields}

-- ---- values

pub one-number : (number : ℕ) (text other : List ℕ) → IsNumberText number text → IsNumberText number other
    → text ≡ other
one-number number text other g h = g.3 ∙ ap hex_digits (one-magnitude g.0 h.0 g.1 h.1 (g.2 ∙ sym h.2)) ∙ sym h.3

pub one-name-text : (octets text other : List ℕ) → IsNameText octets text → IsNameText octets other → text ≡ other
one-name-text octets text other g h = g.2 ∙ ap parts_text (one-name octets g.0 h.0 g.1 h.1) ∙ sym h.2

pub one-rsa-size : (bits text other : List ℕ) → IsRsaSize bits text → IsRsaSize bits other → text ≡ other
one-rsa-size bits text other (inl g) (inl h) =
    let same = numbers-of-bits bits _ _ g.spelled h.spelled in
    let modulus = one-magnitude _ _ g.magnitude h.magnitude (ap (λ (n : ℕ × ℕ). n.0) same) in
    g.size ∙ ap (λ (o : List ℕ). decimal (number_bits o)) modulus ∙ sym h.size
one-rsa-size bits text other (inl g) (inr h) = absurd (h.0 _ g.spelled)
one-rsa-size bits text other (inr g) (inl h) = absurd (g.0 _ h.spelled)
one-rsa-size bits text other (inr g) (inr h) = g.1 ∙ sym h.1

one-size-of : (format : PublicKeyFormat) (bits text other : List ℕ) → IsSizeOf format bits text
    → IsSizeOf format bits other → text ≡ other
one-size-of Rsa bits text other g h = one-rsa-size bits text other g h
one-size-of EcdsaP256 bits text other g h = g ∙ sym h

-- ---- what extensions say

one-said : {V : Type 0} (section : List ℕ) (Has : Option V → Type 0) (Not : Type 0) (show : V → List ℕ)
    → ((v w : Option V) → Has v → Has w → v ≡ w) → ((v : Option V) → Has v → Not → ⊥)
    → (o p : Option (List ℕ)) → Says section Has Not show o → Says section Has Not show p → o ≡ p
one-said section Has Not show one apart o p (inl g) (inl h) = g.2 ∙ ap (option_map show) (one g.0 h.0 g.1 h.1) ∙ sym h.2
one-said section Has Not show one apart o p (inl g) (inr h) = absurd (apart g.0 g.1 h.0)
one-said section Has Not show one apart o p (inr g) (inl h) = absurd (apart h.0 h.1 g.0)
one-said section Has Not show one apart o p (inr g) (inr h) = g.1 ∙ sym h.1

pub one-only : {V : Type 0} (id : List ℕ) (critical : Bool) (G : V → List ℕ → Type 0) (show : V → List ℕ)
    (xs : List ExtensionParts) (o p : Option (List ℕ))
    → SaysOnly id critical G show xs o → SaysOnly id critical G show xs p → o ≡ p
one-only id critical G show xs o p =
    one-said (section_of id) (HasOnly id critical G xs) (HasNone id critical G xs) show (λ v w g h. h.1 v g.0)
    (λ v g none. none v g.0) o p

pub one-uri : (id : List ℕ) (G : Option (List ℕ) → List ℕ → Type 0) (xs : List ExtensionParts) (o p : Option (List ℕ))
    → SaysUri id G xs o → SaysUri id G xs p → o ≡ p
one-uri id G xs o p =
    one-said (section_of id) (HasUri id G xs) (HasNone id false G xs) (λ uri. uri)
    (λ v w g h. g.2 ∙ ap flat (h.1.1 g.0 g.1.0) ∙ sym h.2) (λ v g none. none g.0 g.1.0) o p

-- ---- fields

one-head : (t : TbsParts) (xs ys : List FieldParts) → AreHead t xs → AreHead t ys → xs ≡ ys
one-head t xs ys g h =
    let serial = one-number t.serial g.0 h.0 g.2 h.2 in
    let issuer = one-name-text t.issuer g.1 h.1 g.3 h.3 in
    (rw (serial, issuer) at g.4) ∙ sym h.4

pub one-middle : (validity : Period) (name : List ℕ) (xs ys : List FieldParts) → AreMiddle validity name xs
    → AreMiddle validity name ys → xs ≡ ys
one-middle validity name xs ys g h =
    let subject = one-name-text name g.0 h.0 g.1 h.1 in
    (rw subject at g.2) ∙ sym h.2

pub one-key : (k : KeyParts) (xs ys : List FieldParts) → AreKey k xs → AreKey k ys → xs ≡ ys
one-key k xs ys g h =
    let size = one-size-of k.format k.bits.octets g.0 h.0 g.1 h.1 in
    (rw size at g.2) ∙ sym h.2

one-identifiers : (es : List ExtensionParts) (xs ys : List FieldParts) → AreIdentifiers es xs → AreIdentifiers es ys
    → xs ≡ ys
one-identifiers es xs ys g h =
    let subject = one-only subject_key_identifier false SpellsKeyIdentifier colon_digits es g.0 h.0 g.2 h.2 in
    let authority = one-only authority_key_identifier false SpellsAuthority colon_digits es g.1 h.1 g.3 h.3 in
    (rw (subject, authority) at g.4) ∙ sym h.4

one-uses : (es : List ExtensionParts) (xs ys : List FieldParts) → AreUses es xs → AreUses es ys → xs ≡ ys
one-uses es xs ys g h =
    let constraints = one-only basic_constraints true SpellsConstraints authority_text es g.0 h.0 g.4 h.4 in
    let usage = one-only key_usage true SpellsUsage usage_text es g.1 h.1 g.5 h.5 in
    let purposes = one-only extended_key_usage false SpellsPurposes purposes_text es g.2 h.2 g.6 h.6 in
    let policies = one-only certificate_policies true SpellsPolicies policy_text es g.3 h.3 g.7 h.7 in
    (rw (constraints, usage, purposes, policies) at g.8) ∙ sym h.8

one-issuer : (es : List ExtensionParts) (xs ys : List FieldParts) → AreIssuerPlaces es xs → AreIssuerPlaces es ys
    → xs ≡ ys
one-issuer es xs ys g h =
    let revocation = one-uri crl_distribution_points SpellsPoints es g.0 h.0 g.2 h.2 in
    let issuer = one-uri authority_info_access (SpellsRsyncAccess ca_issuers) es g.1 h.1 g.3 h.3 in
    (rw (revocation, issuer) at g.4) ∙ sym h.4

one-subject : (es : List ExtensionParts) (xs ys : List FieldParts) → AreSubjectPlaces es xs → AreSubjectPlaces es ys
    → xs ≡ ys
one-subject es xs ys g h =
    let repository = one-uri subject_info_access (SpellsRsyncAccess ca_repository) es g.0 h.0 g.4 h.4 in
    let manifest = one-uri subject_info_access (SpellsRsyncAccess rpki_manifest) es g.1 h.1 g.5 h.5 in
    let object = one-uri subject_info_access (SpellsRsyncAccess signed_object) es g.2 h.2 g.6 h.6 in
    let notify = one-uri subject_info_access (SpellsHttpsAccess rpki_notify) es g.3 h.3 g.7 h.7 in
    (rw (repository, manifest, object, notify) at g.8) ∙ sym h.8

one-list-text : (x : Octets) (text other : List ℕ) → IsListText x text → IsListText x other → text ≡ other
one-list-text x text other g h = g.2 ∙ ap (blocks_text x.kind) (h.1.1 g.0 g.1.0) ∙ sym h.2

one-choice-text : (v : ChoiceView) (o p : Option (List ℕ)) → IsChoiceText v o → IsChoiceText v p → o ≡ p
one-choice-text Missing o p g h = g ∙ sym h
one-choice-text Inherit o p g h = g ∙ sym h
one-choice-text (Blocks x) o p g h = let text = one-list-text x g.0 h.0 g.1 h.1 in (rw text at g.2) ∙ sym h.2

one-kind : (label : List ℕ) (v : ChoiceView) (xs ys : List FieldParts) → AreKind label v xs → AreKind label v ys
    → xs ≡ ys
one-kind label v xs ys g h = let text = one-choice-text v g.0 h.0 g.1 h.1 in (rw text at g.2) ∙ sym h.2

one-families : (v : Option IpResourcesView) (xs ys : List FieldParts) → AreFamilies v xs → AreFamilies v ys → xs ≡ ys
one-families None xs ys g h = g ∙ sym h
one-families (Some x) xs ys g h =
    let v4 = one-kind (codes "IPv4") x.v4 g.0 h.0 g.2 h.2 in
    let v6 = one-kind (codes "IPv6") x.v6 g.1 h.1 g.3 h.3 in
    (rw (v4, v6) at g.4) ∙ sym h.4

one-as-numbers : (v : Option ChoiceView) (xs ys : List FieldParts) → AreAsNumbers v xs → AreAsNumbers v ys → xs ≡ ys
one-as-numbers None xs ys g h = g ∙ sym h
one-as-numbers (Some v) xs ys g h = one-kind (codes "AS") v xs ys g h

one-addresses : (es : List ExtensionParts) (xs ys : List FieldParts) → AreAddresses es xs → AreAddresses es ys → xs ≡ ys
one-addresses es xs ys (inl g) (inl h) = let same =
    h.1.1 g.0 g.1.0 in one-families h.0 xs ys (subst (λ (v : Option IpResourcesView). AreFamilies v xs) same g.2) h.2
one-addresses es xs ys (inl g) (inr h) = absurd (h.0 g.0 g.1.0)
one-addresses es xs ys (inr g) (inl h) = absurd (g.0 h.0 h.1.0)
one-addresses es xs ys (inr g) (inr h) = g.1 ∙ sym h.1

one-numbers : (es : List ExtensionParts) (xs ys : List FieldParts) → AreNumbers es xs → AreNumbers es ys → xs ≡ ys
one-numbers es xs ys (inl g) (inl h) = let same =
    h.1.1 g.0 g.1.0 in one-as-numbers h.0 xs ys (subst (λ (v : Option ChoiceView). AreAsNumbers v xs) same g.2) h.2
one-numbers es xs ys (inl g) (inr h) = absurd (h.0 g.0 g.1.0)
one-numbers es xs ys (inr g) (inl h) = absurd (g.0 h.0 h.1.0)
one-numbers es xs ys (inr g) (inr h) = g.1 ∙ sym h.1

one-resources : (es : List ExtensionParts) (xs ys : List FieldParts) → AreResources es xs → AreResources es ys → xs ≡ ys
one-resources es xs ys g h =
    let addresses = one-addresses es g.0 h.0 g.2 h.2 in
    let numbers = one-numbers es g.1 h.1 g.3 h.3 in
    (rw (addresses, numbers) at g.4) ∙ sym h.4

pub one-fields : (octets : List ℕ) (t : TbsParts) (xs ys : List FieldParts) → AreFields octets t xs
    → AreFields octets t ys → xs ≡ ys
one-fields octets t xs ys g h =
    let head = one-head t g.head h.head g.are_head h.are_head in
    let middle = one-middle t.validity t.subject g.middle h.middle g.are_middle h.are_middle in
    let key = one-key t.key g.key h.key g.are_key h.are_key in
    let identifiers = one-identifiers t.extensions g.identifiers h.identifiers g.are_identifiers h.are_identifiers in
    let uses = one-uses t.extensions g.uses h.uses g.are_uses h.are_uses in
    let issuer = one-issuer t.extensions g.issuer h.issuer g.are_issuer h.are_issuer in
    let subject = one-subject t.extensions g.subject h.subject g.are_subject h.are_subject in
    let resources = one-resources t.extensions g.resources h.resources g.are_resources h.are_resources in
    (rw (uses, identifiers, head, middle, key, issuer, subject, resources) at g.parts) ∙ sym h.parts

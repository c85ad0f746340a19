-- What is wrong with octets that are no signed object.
use Rattle.std.proofs.Common.{◌≡◌, ◌≢◌, ◌<◌, ℕ, Bool, true, false, List, length, Result, Ok, Err, inl, inr, refl, subst}
use Rattle.std.specs.Prelude.{IfErr}
use Rattle.rpki_der.specs.declared.error.DecodeError.{DecodeError}
use Rattle.rpki_der.specs.declared.error.DecodeError.TheVariants.{OutOfMemory}
use Rattle.rpki_der.specs.TagName.{TagName, sequence, set, integer, oid}
use Rattle.rpki_der.specs.Leaves.{IsOidOf, IsOnly}
use Rattle.rpki_der.specs.Integer.{IsNumber}
use Rattle.rpki_der.specs.Reading.{Spells, Accepts, Refuses, Refusal, SpellsNothing}
use Rattle.rpki_der.specs.Values.{SpellsContents, SpellsLeaf}
use Rattle.rpki_der.specs.Parts.{Then}
use Rattle.rpki_der.specs.FirstFault.{IsEndFault}
use Rattle.rpki_der.specs.Format.{Format, only}
use Rattle.rpki_der.specs.LeafFormats.{any_oid, this_number, this_oid}
use Rattle.rpki_der.proofs.InsideLaws.{unless-memory}
use Rattle.rpki_der.proofs.LeavesLaws.{leaf-no-memory}
use Rattle.rpki_parse.specs.declared.malformed.Malformed.{Malformed}
use Rattle.rpki_parse.specs.Parts.{malformed}
use Rattle.rpki_der.proofs.FirstFaultLaws.{inside-no-memory, first-no-memory, end-no-memory}
use Rattle.rpki.specs.Oids.{sha256}
use Rattle.rpki.specs.KeyIdentifier.{IsKeyIdentifier}
use Rattle.rpki.specs.AlgorithmFault.{parameters, identified, digest, digest_set, cms_parts, cms, IsCmsRestFault}
use Rattle.rpki.proofs.AlgorithmFaultLaws.{parameters-never, named-never}
use Rattle.rpki_cert.specs.Cert.{CertParts, SpellsCert}
use Rattle.rpki_cert.specs.View.{most_extensions}
use Rattle.rpki_objects.specs.declared.object_part.ObjectPart.{ObjectPart}
use Rattle.rpki_objects.specs.declared.object_part.ObjectPart.TheVariants as P
use Rattle.rpki_objects.specs.declared.signed_object_view.SignedObjectView.{SignedObjectView}
use Rattle.rpki_attributes.specs.SignedAttributes.{AttributesParts, signed_attributes, attribute}
use Rattle.rpki_attributes.specs.SignedAttributes.{attribute_parts, value_set}
use Rattle.rpki_objects.specs.SignedObject.{zero_tag, kept_octets, encapsulated, certificates, signer_identifier}
use Rattle.rpki_objects.specs.SignedObject.{SignerFields, signer_fields, signer_info, signer_infos, data_fields}
use Rattle.rpki_objects.specs.SignedObject.{signed_data, explicit_data, object_fields, signed_object, signed_data_type}
use Rattle.rpki_objects.specs.SignedObject.{ObjectParts, object_fields_of}
use Rattle.rpki_objects.specs.SignedObjectView.{FirstWrong, WrongWithin, LastWrong, IsFirstCertWrong}
use Rattle.rpki_objects.specs.SignedObjectView.{AreSignerFieldsWrong, AreSignersWrong, AreDataFieldsWrong}
use Rattle.rpki_objects.specs.SignedObjectView.{IsObjectError}
use Rattle.rpki_objects.specs.SignedObjectView.FirstWrong.{AtPart, Later}
use Rattle.rpki_objects.specs.SignedObjectView.WrongWithin.{Outside, Inside}
use Rattle.rpki_objects.specs.SignedObjectView.IsFirstCertWrong.{NoSet, NoCert, BehindCert}
use Rattle.rpki_x509.proofs.InPlaceLaws.{refused, front-of}

-- ---- no memory

pub oid-refused : (s r : List ℕ) (e : DecodeError) → Refusal any_oid.spells any_oid.fault s r e
    → Refuses any_oid.spells s
oid-refused s r e =
    refused any_oid.spells any_oid.fault s r e (λ k. leaf-no-memory oid false IsOidOf s OutOfMemory k refl)

digest-never : (s : List ℕ) → digest.fault s OutOfMemory → ⊥
digest-never s =
    inside-no-memory sequence true (identified sha256).fault s
    (λ c. named-never sha256 parameters.fault c parameters-never)

cms-rest-never : (x r : List ℕ) → IsCmsRestFault x r OutOfMemory → ⊥
cms-rest-never x r (inl h) = parameters-never r h.1
cms-rest-never x r (inr h) = h.1

-- ---- readers that take no memory

module _ {V : Type 0} (F : Format V) (part : ObjectPart) {L : List ℕ → Malformed ObjectPart → Type 0} where
  -- what is wrong is that no value of F begins s, and the error says why
  wrong-at : (s r : List ℕ) (e : DecodeError) → (F.fault s OutOfMemory → ⊥) → Refusal F.spells F.fault s r e
      → FirstWrong F part L s (malformed part e)
  wrong-at s r e never h =
      let other : e ≢ OutOfMemory = λ z. never (subst (F.fault s) z h.kind) in
      AtPart (unless-memory e other h.refuses) (record { other = other; kind = h.kind }) refl

-- such an error of a reader of F makes this part wrong, and L is not asked
abbrev pub WrongAt : {V : Type 0} → Format V → ObjectPart → (List ℕ → Malformed ObjectPart → Type 0) → List ℕ → List ℕ
    → DecodeError → Type 0
WrongAt F part L s r e = Refusal F.spells F.fault s r e → FirstWrong F part L s (malformed part e)

module _ (part : ObjectPart) {L : List ℕ → Malformed ObjectPart → Type 0} (s r : List ℕ) (e : DecodeError) where
  pub number-wrong : (n : ℕ) → WrongAt (this_number n) part L s r e
  number-wrong n =
      wrong-at (this_number n) part s r e (λ k. leaf-no-memory integer false (IsNumber n) s OutOfMemory k refl)

  pub type-wrong : WrongAt (this_oid signed_data_type) part L s r e
  type-wrong =
      wrong-at (this_oid signed_data_type) part s r e
      (λ k. leaf-no-memory oid false (IsOnly signed_data_type) s OutOfMemory k refl)

  pub identifier-wrong : WrongAt signer_identifier part L s r e
  identifier-wrong =
      wrong-at signer_identifier part s r e (λ k. leaf-no-memory zero_tag false IsKeyIdentifier s OutOfMemory k refl)

  pub digest-wrong : WrongAt digest part L s r e
  digest-wrong = wrong-at digest part s r e (digest-never s)

  pub digests-wrong : WrongAt digest_set part L s r e
  digests-wrong =
      wrong-at digest_set part s r e
      (inside-no-memory set true (only digest).fault s
      (λ c. first-no-memory digest.spells digest.fault (λ v. IsEndFault) c (digest-never c) (λ v q. end-no-memory q)))

  pub cms-wrong : WrongAt cms part L s r e
  cms-wrong =
      wrong-at cms part s r e
      (inside-no-memory sequence true cms_parts.fault s
      (λ c. first-no-memory any_oid.spells any_oid.fault IsCmsRestFault c
      (λ k. leaf-no-memory oid false IsOidOf c OutOfMemory k refl) cms-rest-never))

-- ---- where something is wrong, nothing is spelled

-- where L says it of s, s spells nothing of G
abbrev Refutes : {V : Type 0} → (List ℕ → Malformed ObjectPart → Type 0) → (V → List ℕ → Type 0) → Type 0
Refutes L G = (s : List ℕ) (q : Malformed ObjectPart) → L s q → SpellsNothing G s

last-wrong : {V : Type 0} (F : Format V) (part : ObjectPart) → Refutes (LastWrong F part) F.spells
last-wrong F part s q h = h.0

within : {V : Type 0} (t : TagName) (part : ObjectPart) {L : List ℕ → Malformed ObjectPart → Type 0}
    (C : V → List ℕ → Type 0) → Refutes L C → Refutes (WrongWithin t part L) (SpellsLeaf t true C)
within t part C inner s q (Outside none e is) v h = none h.contents h.value
within t part C inner s q (Inside c value one k) v h =
    inner c q k v (subst (C v) (one h.contents h.value) h.spelled)

behind : {A B : Type 0} (F : Format A) (part : ObjectPart) {L : List ℕ → Malformed ObjectPart → Type 0}
    (H : B → List ℕ → Type 0) → Refutes L H → Refutes (FirstWrong F part L) (Then F.spells H)
behind F part H later s q (AtPart none e is) x h = none x.0 h.second (front-of F.spells H s x h)
behind F part H later s q (Later v r a k) x h =
    later r q k x.1 (subst (H x.1) (a.only x.0 h.second (front-of F.spells H s x h)).1 h.two)

module _ (strict : Bool) where
  abbrev Algorithm : Bool × List ℕ → List ℕ → Type 0
  Algorithm = Then cms.spells kept_octets.spells

  abbrev Attributes : AttributesParts × (Bool × List ℕ) → List ℕ → Type 0
  Attributes = Then (signed_attributes strict).spells Algorithm

  abbrev Digest : Unit {0} × (AttributesParts × (Bool × List ℕ)) → List ℕ → Type 0
  Digest = Then digest.spells Attributes

  abbrev Identifier : List ℕ × (Unit {0} × (AttributesParts × (Bool × List ℕ))) → List ℕ → Type 0
  Identifier = Then signer_identifier.spells Digest

  fields-wrong : Refutes (AreSignerFieldsWrong strict) (signer_fields strict).spells
  fields-wrong =
      behind (this_number 3) P.SignerVersion Identifier
      (behind signer_identifier P.SignerIdentifier Digest
      (behind digest P.SignerDigestAlgorithm Attributes
      (behind (signed_attributes strict) P.SignedAttrs Algorithm
      (behind cms P.SignatureAlgorithm kept_octets.spells (last-wrong kept_octets P.Signature)))))

  signers-wrong : Refutes (AreSignersWrong strict) (signer_infos strict).spells
  signers-wrong =
      within set P.Signers (signer_info strict).spells
      (within sequence P.Signer (signer_fields strict).spells fields-wrong)

-- ---- the signed data: but for a certificate of more extensions than are compared

-- where L says it of s, what s spells of G has so many
abbrev Exceeds : {V : Type 0} → (List ℕ → Malformed ObjectPart → Type 0) → (V → List ℕ → Type 0) → (V → CertParts)
    → Type 0
Exceeds {V} L G cert =
    (s : List ℕ) (q : Malformed ObjectPart) → L s q → (v : V) → G v s → most_extensions < length (cert v).tbs.extensions

within-more : {V : Type 0} (t : TagName) (part : ObjectPart) {L : List ℕ → Malformed ObjectPart → Type 0}
    (C : V → List ℕ → Type 0) (cert : V → CertParts) → Exceeds L C cert
    → Exceeds (WrongWithin t part L) (SpellsLeaf t true C) cert
within-more t part C cert inner s q (Outside none e is) v h = absurd (none h.contents h.value)
within-more t part C cert inner s q (Inside c value one k) v h =
    inner c q k v (subst (C v) (one h.contents h.value) h.spelled)

behind-more : {A B : Type 0} (F : Format A) (part : ObjectPart) {L : List ℕ → Malformed ObjectPart → Type 0}
    (H : B → List ℕ → Type 0) (cert : B → CertParts) → Exceeds L H cert
    → Exceeds (FirstWrong F part L) (Then F.spells H) (λ x. cert x.1)
behind-more F part H cert later s q (AtPart none e is) x h = absurd (none x.0 h.second (front-of F.spells H s x h))
behind-more F part H cert later s q (Later v r a k) x h =
    later r q k x.1 (subst (H x.1) (a.only x.0 h.second (front-of F.spells H s x h)).1 h.two)

-- the contents of the SET of the certificate
cert-in : {B : Type 0} (H : B → List ℕ → Type 0) (s : List ℕ) (x : CertParts × B) (h : Then certificates.spells H x s)
    → Spells (SpellsContents zero_tag true) s h.one.contents h.second
cert-in H s x h = record { front = h.first; parts = h.parts; spelled = h.one.value }

cert-more : {B : Type 0} {L : List ℕ → Malformed ObjectPart → Type 0} (H : B → List ℕ → Type 0) → Refutes L H
    → Exceeds (IsFirstCertWrong L) (Then certificates.spells H) (λ x. x.0)
cert-more H later s q (NoSet none e is) x h = absurd (none h.one.contents h.second (cert-in H s x h))
cert-more H later s q (NoCert c r p a wrong many is) x h =
    many x.0 (subst (SpellsCert x.0) (a.only h.one.contents h.second (cert-in H s x h)).0 h.one.spelled)
cert-more H later s q (BehindCert c r y a z k) x h =
    absurd (later r q k x.1 (subst (H x.1) (a.only h.one.contents h.second (cert-in H s x h)).1 h.two))

module _ (strict : Bool) where
  abbrev Signers : SignerFields → List ℕ → Type 0
  Signers = (signer_infos strict).spells

  abbrev Certs : CertParts × SignerFields → List ℕ → Type 0
  Certs = Then certificates.spells Signers

  abbrev Content : (List ℕ × List ℕ) × (CertParts × SignerFields) → List ℕ → Type 0
  Content = Then encapsulated.spells Certs

  abbrev Digests : Unit {0} × ((List ℕ × List ℕ) × (CertParts × SignerFields)) → List ℕ → Type 0
  Digests = Then digest_set.spells Content

  data-more : Exceeds (AreDataFieldsWrong strict) (data_fields strict).spells (λ x. x.1.1.1.0)
  data-more =
      behind-more (this_number 3) P.Version Digests (λ x. x.1.1.0)
      (behind-more digest_set P.DigestAlgorithms Content (λ x. x.1.0)
      (behind-more encapsulated P.Content Certs (λ x. x.0) (cert-more Signers (signers-wrong strict))))

  explicit-more : Exceeds (WrongWithin zero_tag P.SignedData (WrongWithin sequence P.SignedData
      (AreDataFieldsWrong strict))) (explicit_data strict).spells (λ x. x.1.1.1.0)
  explicit-more =
      within-more zero_tag P.SignedData (signed_data strict).spells (λ x. x.1.1.1.0)
      (within-more sequence P.SignedData (data_fields strict).spells (λ x. x.1.1.1.0) data-more)

  pub object-more : (s : List ℕ) (q : Malformed ObjectPart) → IsObjectError strict s q → (x : ObjectParts)
      → (signed_object strict).spells (object_fields_of x) s → most_extensions < length x.cert.tbs.extensions
  object-more s q h x k =
      within-more sequence P.Object (object_fields strict).spells (λ y. y.1.1.1.1.0)
      (behind-more (this_oid signed_data_type) P.ObjectType (explicit_data strict).spells (λ y. y.1.1.1.0)
      explicit-more) s q h (object_fields_of x) k

-- ---- the reader of the fields, whose result is handed on

module _ (strict : Bool) (s c m d : List ℕ)
    (outer : SpellsContents sequence true c s × ((w : List ℕ) → SpellsContents sequence true w s → w ≡ c))
    (type : Accepts (this_oid signed_data_type).spells c tt m)
    (explicit : SpellsContents zero_tag true d m × ((w : List ℕ) → SpellsContents zero_tag true w m → w ≡ d)) where
  abbrev pub IsWrong : Malformed ObjectPart → Type 0
  IsWrong q = IsObjectError strict s q

  -- what is wrong in the SEQUENCE of signed data
  pub within-data : (q : Malformed ObjectPart) → WrongWithin sequence P.SignedData (AreDataFieldsWrong strict) d q
      → IsWrong q
  within-data q h = Inside c outer.0 outer.1 (Later tt m type (Inside d explicit.0 explicit.1 h))

  module _ (e : List ℕ)
      (fields : SpellsContents sequence true e d × ((w : List ℕ) → SpellsContents sequence true w d → w ≡ e)) where
    pub handed-wrong : (x : Result SignedObjectView (Malformed ObjectPart))
        → IfErr x (λ q. AreDataFieldsWrong strict e q) → IfErr x IsWrong
    handed-wrong (Ok v) k = k
    handed-wrong (Err q) k = within-data q (Inside e fields.0 fields.1 k)

    pub handed-more : (x : Result SignedObjectView (Malformed ObjectPart))
        → IfErr x (λ q. AreDataFieldsWrong strict e q)
        → IfErr x (λ q. (y : ObjectParts) → (signed_object strict).spells (object_fields_of y) s
        → most_extensions < length y.cert.tbs.extensions)
    handed-more (Ok v) k = k
    handed-more (Err q) k = object-more strict s q (within-data q (Inside e fields.0 fields.1 k))

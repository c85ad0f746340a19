-- Signed objects that are read in place.
use Rattle.std.proofs.Common.{◌≡◌, ◌∙◌, ◌+◌, ◌++◌, ℕ, Bool, true, List, [], length, Some}
use Rattle.std.proofs.Common.{Result, Ok, Err, refl, sym, ap, subst, length-append}
use Rattle.std.proofs.lemmas.List.{append_cancel_right}
use Rattle.std.specs.Prelude.{IfOk, IfErr}
use Rattle.rpki_der.specs.TagName.{sequence, set}
use Rattle.rpki_der.specs.Reading.{Spells, Accepts, Refuses, SpellsNothing}
use Rattle.rpki_der.specs.Values.{SpellsContents}
use Rattle.rpki_der.specs.LeafFormats.{any_oid, this_number, this_oid}
use Rattle.rpki.specs.AlgorithmFault.{cms, digest, digest_set}
use Rattle.rpki_der.specs.Section.{IsSection}
use Rattle.rpki_parse.specs.declared.malformed.Malformed.{Malformed}
use Rattle.rpki_objects.specs.declared.object_part.ObjectPart.{ObjectPart}
use Rattle.rpki_objects.specs.declared.content_view.ContentView.{ContentView}
use Rattle.rpki_attributes.specs.declared.signed_attrs_view.SignedAttrsView.{SignedAttrsView}
use Rattle.rpki_objects.specs.declared.signer_view.SignerView.{SignerView}
use Rattle.rpki_objects.specs.declared.signed_object_view.SignedObjectView.{SignedObjectView}
use Rattle.rpki_attributes.specs.SignedAttributes.{AttributeValues, AttributesParts, attributes_tag, each_attribute}
use Rattle.rpki_attributes.specs.SignedAttributes.{message_of, signed_attributes, values_known}
use Rattle.rpki_objects.specs.SignedObject.{zero_tag, kept_octets, explicit_content, content_fields}
use Rattle.rpki_objects.specs.SignedObject.{SignerParts, signer_fields_of, signer_identifier, signer_infos}
use Rattle.rpki_objects.specs.SignedObject.{ObjectParts, signed_data_type}
use Rattle.rpki_attributes.specs.SignedAttributesView.{AreTogether, TakesAttributes}
use Rattle.rpki_objects.specs.SignedObjectView.{TakesContent, TakesCertificate}
use Rattle.rpki_objects.specs.SignedObjectView.{IsSignerAt}
use Rattle.rpki_objects.specs.SignedObjectView.{IsSignerIn, IsDataIn, IsObjectAt, AreSignerFieldsWrong, AreSignersWrong}
use Rattle.rpki_objects.specs.SignedObjectView.{IsFirstCertWrong, NoneFollows}
use Rattle.rpki_objects.specs.SignedObjectView.WrongWithin.{Inside}
use Rattle.rpki_objects.specs.SignedObjectView.IsFirstCertWrong.{NoSet, NoCert, BehindCert}
use Rattle.rpki_attributes.proofs.AttributesLaws.{parts_from}
use Rattle.rpki_x509.proofs.InPlaceLaws.{front-of}

-- ---- the content

pair : (x : List ℕ × List ℕ) (t o : List ℕ) → x.0 ≡ t → x.1 ≡ o → x ≡ (t, o)
pair x t o e f = ap (λ (q : List ℕ). (q, x.1)) e ∙ ap (λ (q : List ℕ). (t, q)) f

pub content-taken : (s c r t m o : List ℕ) (v : ContentView) → Accepts (SpellsContents sequence true) s c r
    → Accepts any_oid.spells c t m → explicit_content.spells o m × ((w : List ℕ) → explicit_content.spells w m → w ≡ o)
    → v.content_type.octets.now ≡ t → v.content_type.following ≡ length m + length r → v.content.octets.now ≡ o
    → v.content.following ≡ length r → TakesContent s r (Ok v)
content-taken s c r t m o v a b k type after is last = (
  record { content_type = t; content = o },
  record {
    spells = record {
      front = a.spells.front;
      parts = a.spells.parts;
      spelled = record {
        contents = c;
        value = a.spells.spelled;
        spelled = record {
          first = b.spells.front;
          second = m;
          parts = b.spells.parts;
          one = b.spells.spelled;
          two = k.0;
        };
      };
    };
    only = λ x q h.
        let outer = a.only h.spelled.contents q
        (record { front = h.front; parts = h.parts; spelled = h.spelled.value }) in
        let inner = subst (content_fields.spells x) outer.0 h.spelled.spelled in
        let e = b.only x.0 inner.second (front-of any_oid.spells explicit_content.spells c x inner) in
        (pair x t o e.0 (k.1 x.1 (subst (explicit_content.spells x.1) e.1 inner.two)), outer.1);
  },
  record {
    content_type = record { octets = type; following = after ∙ sym (length-append m r) };
    content = record { octets = is; following = last };
  },
)

-- ---- the signer

pub signer-read : (strict : Bool) (s m n o p q w : List ℕ) (v : SignerView) → Accepts (this_number 3).spells s tt m
    → Accepts signer_identifier.spells m v.identifier n → Accepts digest.spells n tt o
    → TakesAttributes strict o p (Some v.signed_attrs) → Accepts cms.spells p v.algorithm q
    → kept_octets.spells w q → IsSection v.signature w [] → IsSignerIn strict s v
signer-read strict s m n o p q w v version identifier digests attributes algorithm value at = (
  record {
    identifier = v.identifier;
    attributes = attributes.0;
    signature = record { algorithm = v.algorithm; value = w };
  },
  record {
    first = version.spells.front;
    second = m;
    parts = version.spells.parts;
    one = version.spells.spelled;
    two = record {
      first = identifier.spells.front;
      second = n;
      parts = identifier.spells.parts;
      one = identifier.spells.spelled;
      two = record {
        first = digests.spells.front;
        second = o;
        parts = digests.spells.parts;
        one = digests.spells.spelled;
        two = record {
          first = attributes.1.spells.front;
          second = p;
          parts = attributes.1.spells.parts;
          one = attributes.1.spells.spelled;
          two = record {
            first = algorithm.spells.front;
            second = q;
            parts = algorithm.spells.parts;
            one = algorithm.spells.spelled;
            two = value;
          };
        };
      };
    };
  },
  record { identifier = refl; attributes = attributes.2; algorithm = refl; signature = at },
)

-- the SET of the signer, which is all of s
abbrev pub IsSignersAt : Bool → List ℕ → SignerView → Type 0
IsSignersAt strict s v =
    (x : SignerParts) × (h : (signer_infos strict).spells (signer_fields_of x) s)
    × IsSignerAt strict x h.spelled.contents h.spelled.spelled v

pub signers-handed : (strict : Bool) (s c d : List ℕ) (x : Result SignerView (Malformed ObjectPart))
    → SpellsContents set true c s → SpellsContents sequence true d c → IfOk x (IsSignerIn strict d)
    → IfOk x (IsSignersAt strict s)
signers-handed strict s c d (Ok v) h k l =
    (l.0, record { contents = c; value = h; spelled = record { contents = d; value = k; spelled = l.1 } }, l.2)
signers-handed strict s c d (Err q) h k l = l

pub signers-handed-wrong : (strict : Bool) (s c d : List ℕ) (x : Result SignerView (Malformed ObjectPart))
    → SpellsContents set true c s × ((e : List ℕ) → SpellsContents set true e s → e ≡ c)
    → SpellsContents sequence true d c × ((e : List ℕ) → SpellsContents sequence true e c → e ≡ d)
    → IfErr x (λ q. AreSignerFieldsWrong strict d q) → IfErr x (λ q. AreSignersWrong strict s q)
signers-handed-wrong strict s c d (Ok v) h k l = l
signers-handed-wrong strict s c d (Err q) h k l = Inside c h.0 h.1 (Inside d k.0 k.1 l)

-- ---- the signed data

-- what is wrong with the certificate is wrong with what it begins
pub cert-wrong : (L : List ℕ → Malformed ObjectPart → Type 0) (s : List ℕ) (q : Malformed ObjectPart)
    → IsFirstCertWrong NoneFollows s q → IsFirstCertWrong L s q
cert-wrong L s q (NoSet none k is) = NoSet none k is
cert-wrong L s q (NoCert c r p a wrong many is) = NoCert c r p a wrong many is
cert-wrong L s q (BehindCert c r x a k none) = absurd none

pub data-read : (strict : Bool) (s m n o p : List ℕ) (v : SignedObjectView) → Accepts (this_number 3).spells s tt m
    → Accepts digest_set.spells m tt n → TakesContent n o (Ok v.content) → TakesCertificate o p (Ok v.cert)
    → IsSignersAt strict p v.signer → IsDataIn strict s v
data-read strict s m n o p v version digests content cert signer = (
  record { content = content.0; cert = cert.1; signer = signer.0 },
  record {
    first = version.spells.front;
    second = m;
    parts = version.spells.parts;
    one = version.spells.spelled;
    two = record {
      first = digests.spells.front;
      second = n;
      parts = digests.spells.parts;
      one = digests.spells.spelled;
      two = record {
        first = content.1.spells.front;
        second = o;
        parts = content.1.spells.parts;
        one = content.1.spells.spelled;
        two = record {
          first = cert.2.spells.front;
          second = p;
          parts = cert.2.spells.parts;
          one = record { contents = cert.0; value = cert.2.spells.spelled; spelled = cert.3.spelled };
          two = signer.1;
        };
      };
    };
  },
  record { content = content.2; cert = cert.4; cert_parts = cert.3; signer = signer.2 },
)

-- ---- a signed object

-- the object is all of s, and the sections are those of its parts
abbrev pub IsObjectIn : Bool → List ℕ → SignedObjectView → Type 0
IsObjectIn strict s v = (x : ObjectParts) × IsObjectAt strict s v x

module _ (strict : Bool) (s c m d e : List ℕ) (outer : SpellsContents sequence true c s)
    (type : Accepts (this_oid signed_data_type).spells c tt m) (explicit : SpellsContents zero_tag true d m)
    (fields : SpellsContents sequence true e d) where
  pub object-handed : (x : Result SignedObjectView (Malformed ObjectPart)) → IfOk x (IsDataIn strict e)
      → IfOk x (IsObjectIn strict s)
  object-handed (Ok v) k = (
    k.0,
    record {
      spelled = record {
        contents = c;
        value = outer;
        spelled = record {
          first = type.spells.front;
          second = m;
          parts = type.spells.parts;
          one = type.spells.spelled;
          two = record {
            contents = d;
            value = explicit;
            spelled = record { contents = e; value = fields; spelled = k.1 };
          };
        };
      };
      parts = k.2;
    },
  )
  object-handed (Err q) k = k

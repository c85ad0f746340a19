-- The two values that disagree where an object breaks a clause: the one that was found, and the one that is expected.
use Rattle.std.specs.Prelude.{◌≡◌, ℕ, nat_eq, Bool, if◌then◌else◌, int_le, List, [], ◌∷◌, ◌++◌, codes}
use Rattle.std.specs.Prelude.{Option, Some, None}
use Rattle.std.specs.List.{ends_with}
use Rattle.jiff.specs.Types.{DateTime}
use Rattle.jiff.specs.Words.{civil_nanos}
use Rattle.sha2.specs.Sha256.{sha256}
use Rattle.rpki.specs.declared.repository.error.ValidationError.{ValidationError}
use Rattle.rpki_time.specs.Validity.{Period}
use Rattle.rpki_cert.specs.Cert.{TbsParts, CertParts}
use Rattle.rpki_crl.specs.Crl.{CrlParts}
use Rattle.rpki_objects.specs.SignedObject.{ObjectParts}
use Rattle.rpki_fields.specs.Field.{FieldParts, field_parts}
use Rattle.rpki_fields.specs.IdentifierText.{identifier_text}
use Rattle.rpki_fields.specs.NameText.{IsNameText}
use Rattle.rpki_fields.specs.ValueText.{hex_digits, time_text}
use Rattle.rpki_fields.specs.declared.object.Object.{Object}
use Rattle.rpkicert.specs.declared.fault.Clause.{Clause}
use Rattle.rpkicert.specs.declared.fault.Clause.TheVariants as C
use Rattle.rpkicert.specs.declared.fault.Fault.{Fault}
use Rattle.rpkicert.specs.declared.fault.Fault.TheVariants.{Unverified}
use Rattle.rpkicert.specs.Fault.{fault_text, text_in}
use Rattle.rpkicert.specs.Requirements.{TermParts, signer_of, signed_of, list_of, signer_period, list_period}
use Rattle.rpkicert.specs.Requirements.{manifest_period}

-- moments, names, types by the contents octets of their identifiers, or digests: what was found, and what is expected
pub data ValuePair : Type 0 where
  Moments : (found expected : DateTime) → ValuePair
  Names : (found expected : List ℕ) → ValuePair
  Types : (found expected : List ℕ) → ValuePair
  Digests : (found expected : List ℕ) → ValuePair

-- ---- which they are

-- the end of the period that the moment, which is outside of it, is beyond
abbrev pub end_beyond : Period → DateTime → DateTime
end_beyond p at = if int_le (civil_nanos p.not_before) (civil_nanos at) then p.not_after else p.not_before

-- a moment outside of a period, and that end
abbrev pub moments : Option Period → Option DateTime → Option ValuePair
moments None at = None
moments (Some p) None = None
moments (Some p) (Some at) = Some (Moments at (end_beyond p at))

-- the error's text ends so
abbrev pub says : ValidationError → List ℕ → Bool
says e text = ends_with nat_eq (text_in e) text

-- these values, where that is the error
abbrev pub where_said : (said : Bool) → Option ValuePair → Option ValuePair
where_said said values = if said then values else None

abbrev pub is_other_name : ValidationError → Bool
is_other_name e = says e (codes "issuer name mismatch")

-- the issuer's name that a certificate has, and the subject of the issuer
abbrev pub cert_names : Option TbsParts → Option CertParts → Option ValuePair
cert_names None c = None
cert_names (Some issuer) None = None
cert_names (Some issuer) (Some c) = Some (Names c.tbs.issuer issuer.subject)

-- the same of a revocation list
abbrev pub list_names : Option TbsParts → Option CrlParts → Option ValuePair
list_names None l = None
list_names (Some issuer) None = None
list_names (Some issuer) (Some l) = Some (Names l.list.issuer issuer.subject)

-- of a signed object, the type of the content, or its digest, and the one that is signed
abbrev pub types : ObjectParts → ValuePair
types o = Types o.content.content_type o.signer.attributes.values.content_type

abbrev pub digests : ObjectParts → ValuePair
digests o = Digests (sha256 o.content.content) o.signer.attributes.values.message_digest

abbrev pub signed_values : (type digest : Bool) → Option ObjectParts → Option ValuePair
signed_values type digest None = None
signed_values type digest (Some o) =
    if type then Some (types o) else if digest then Some (digests o) else None

abbrev pub is_other_type : ValidationError → Bool
is_other_type e = says e (codes "content type mismatch")

abbrev pub is_other_digest : ValidationError → Bool
is_other_digest e = says e (codes "message digest mismatch")

-- of the clause that the object breaks with this error
abbrev pub values_by : TermParts → Object → Clause → ValidationError → Option ValuePair
values_by terms x C.Period e = moments (signer_period x) terms.moment
values_by terms x C.Updates e = moments (list_period x) terms.moment
values_by terms x C.Manifest e = moments (manifest_period x) terms.moment
values_by terms x C.Object e = signed_values (is_other_type e) (is_other_digest e) (signed_of x)
values_by terms x C.Inherited e = None
values_by terms x C.Origins e = None
values_by terms x C.Customer e = None
values_by terms x C.Anchor e = None
values_by terms x C.Certificate e = where_said (is_other_name e) (cert_names terms.issuer (signer_of x))
values_by terms x C.List e = where_said (is_other_name e) (list_names terms.issuer (list_of x))
values_by terms x C.Revoked e = None

-- of an object's fault
abbrev pub values_of : TermParts → Object → Fault → Option ValuePair
values_of terms x (Unverified clause e) = values_by terms x clause e
values_of terms x fault = None

-- the same where there may be no fault
abbrev pub values_found : TermParts → Object → Option Fault → Option ValuePair
values_found terms x None = None
values_found terms x (Some fault) = values_of terms x fault

-- ---- how they are told

pub record ToldParts : Type 0 where
  pub found : List ℕ
  pub expected : List ℕ

-- the texts of the two: times as fields have them, names (RFC 4514), identifiers by their arcs, digests by their digits
abbrev pub AreTexts : ValuePair → ToldParts → Type 0
AreTexts (Moments found expected) t = (t.found ≡ time_text found) × (t.expected ≡ time_text expected)
AreTexts (Names found expected) t = IsNameText found t.found × IsNameText expected t.expected
AreTexts (Types found expected) t = (t.found ≡ identifier_text found) × (t.expected ≡ identifier_text expected)
AreTexts (Digests found expected) t = (t.found ≡ hex_digits found) × (t.expected ≡ hex_digits expected)

-- texts where there are values
abbrev pub AreTold : Option ValuePair → Option ToldParts → Type 0
AreTold None t = t ≡ None
AreTold (Some values) None = ⊥
AreTold (Some values) (Some t) = AreTexts values t

-- in words, after what is wrong
abbrev pub values_text : Option ToldParts → List ℕ
values_text None = []
values_text (Some t) = codes "; found " ++ t.found ++ codes "; expected " ++ t.expected

-- what is wrong, and the values
abbrev pub told_text : Fault → Option ToldParts → List ℕ
told_text fault t = fault_text fault ++ values_text t

-- as fields
abbrev pub values_fields : Option ToldParts → List FieldParts
values_fields None = []
values_fields (Some t) = field_parts (codes "Found") t.found ∷ field_parts (codes "Expected") t.expected ∷ []

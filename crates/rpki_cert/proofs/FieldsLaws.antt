-- The fields of a TBSCertificate that is read in place.
use Rattle.std.proofs.Common.{◌≡◌, ℕ, Bool, true, false, List, Result, Ok, Err, refl}
use Rattle.std.specs.Prelude.{IfOk, IfErr}
use Rattle.rpki_der.specs.declared.error.DecodeError.{DecodeError}
use Rattle.rpki_der.specs.declared.error.DecodeError.TheVariants.{OutOfMemory}
use Rattle.rpki_der.specs.TagName.{sequence, integer}
use Rattle.rpki_der.specs.Reading.{Accepts, Refuses, Refusal}
use Rattle.rpki_der.specs.Values.{SpellsContents}
use Rattle.rpki_der.proofs.LeavesLaws.{leaf-no-memory}
use Rattle.rpki_time.specs.Serial.{SpellsSerial, IsSerialContents, IsSerialFault}
use Rattle.rpki_time.specs.Validity.{Period}
use Rattle.rpki_time.specs.PeriodValue.{SpellsPeriod, IsPeriodFault}
use Rattle.rpki_time.proofs.PeriodReadingLaws.{period-no-memory}
use Rattle.rpki.specs.AlgorithmFault.{algorithm}
use Rattle.rpki.specs.Name.{SpellsNameOctets}
use Rattle.rpki.specs.PublicKey.{KeyParts, SpellsKey}
use Rattle.rpki.specs.KeyFault.{key_view}
use Rattle.rpki.proofs.KeyFaultLaws.{view-outer}
use Rattle.rpki.specs.ExtensionValue.{ExtensionParts}
use Rattle.rpki_cert.specs.declared.read.fields.Keyed.{Keyed}
use Rattle.rpki_cert.specs.declared.read.fields.Named.{Named}
use Rattle.rpki_cert.specs.declared.read.fields.TbsView.{TbsView}
use Rattle.rpki_cert.specs.Cert.{TbsParts, SpellsVersion, AreFields, fields_of, SpellsTbs}
use Rattle.rpki_x509.specs.Signed.{SpellsRpkiAlgorithm}
use Rattle.rpki_cert.specs.Cert.{version_tag, SpellsTwo}
use Rattle.rpki_cert.specs.declared.read.cert_error.CertError.{CertError}
use Rattle.rpki_der.specs.Section.{IsSection}
use Rattle.rpki_cert.specs.View.{AreExtensionsAt, IsKeyedAt, IsNamedIn, IsTbsIn, AreNamed, AreFieldsWrong}
use Rattle.rpki_cert.specs.View.{IsTbsWrong, HasOne}
use Rattle.rpki_cert.specs.View.WholeWrong.{InFrame}
use Rattle.rpki_der.specs.Leaves.{IsOnly}
use Rattle.rpki_cert.specs.Cert.{two}
use Rattle.rpki_der.specs.FirstFault.{FirstFault, IsEndFault}
use Rattle.rpki_der.proofs.FirstFaultLaws.{inside-no-memory, first-no-memory, end-no-memory}
use Rattle.rpki_x509.proofs.NestedLaws.{StandsBefore}
use Rattle.rpki_x509.proofs.FrameLaws.{refused}
use Rattle.rpki_cert.proofs.OneLaws.{tbs-one}
use Rattle.rpki_cert.specs.Cert.{two_value, version}
use Rattle.rpki_x509.proofs.FrameLaws.{section-front}

-- ---- readers that take no memory

pub key-refused : (s r : List ℕ) (e : DecodeError) → Refusal SpellsKey key_view.fault s r e → Refuses SpellsKey s
key-refused s r e h = refused SpellsKey key_view.fault s r e (λ k. (view-outer s OutOfMemory k).other refl) h

pub period-refused : (s r : List ℕ) (e : DecodeError) → Refusal SpellsPeriod IsPeriodFault s r e
    → Refuses SpellsPeriod s
period-refused s r e h = refused SpellsPeriod IsPeriodFault s r e (period-no-memory s) h

pub serial-refused : (s r : List ℕ) (e : DecodeError) → Refusal SpellsSerial IsSerialFault s r e
    → Refuses SpellsSerial s
serial-refused s r e h = refused SpellsSerial IsSerialFault s r e
    (λ k. leaf-no-memory integer false IsSerialContents s OutOfMemory k.0 refl) h

pub version-refused : (s r : List ℕ) (e : DecodeError) → Refusal SpellsVersion version.fault s r e
    → Refuses SpellsVersion s
version-refused s r e h =
    refused SpellsVersion version.fault s r e
    (λ k. inside-no-memory version_tag true (FirstFault SpellsTwo two_value.fault (λ v. IsEndFault)) s
    (λ d l. first-no-memory SpellsTwo two_value.fault (λ v. IsEndFault) d
    (λ m. leaf-no-memory integer false (IsOnly two) d OutOfMemory m refl) (λ v q. end-no-memory q) l) k)
    h

-- ---- what was read

pub keyed-read : (s m o p : List ℕ) (key : KeyParts) (k : Keyed) → Accepts SpellsKey s key m
    → AreExtensionsAt m k.extensions → k.key ≡ key → o ≡ s → p ≡ m → StandsBefore o p k.octets → IsKeyedAt s k
keyed-read s m o p key k a x same i j is = (
  key,
  x.extensions,
  record { first = a.spells.front; second = m; parts = a.spells.parts; one = a.spells.spelled; two = x.spelled },
  record {
    same = same;
    key_at = section-front s a.spells.front m o p m k.octets a.spells.parts i j is refl;
    list_at = x.list;
  },
)

-- the fields from the issuer on; the others are given no value yet
abbrev named_of : List ℕ → Period → List ℕ → KeyParts → List ExtensionParts → TbsParts
named_of issuer validity subject key xs = record {
  serial = 0;
  algorithm = false;
  issuer = issuer;
  validity =
      validity;
  subject = subject;
  key = key;
  extensions = xs;
}

pub named-read : (s r q m i u : List ℕ) (v : Period) (n : Named) → Accepts SpellsNameOctets s i r
    → IsSection n.issuer i r → Accepts SpellsPeriod r v q → n.validity ≡ v → Accepts SpellsNameOctets q u m
    → IsSection n.subject u m
    → IsKeyedAt m n.keyed → (t : TbsParts) × (h : AreNamed t s) × IsNamedIn t s h n
named-read s r q m i u v n a at b same d on k =
    let (key, xs, spelled, there) = k in (
      named_of i v u key xs,
      record {
        first = a.spells.front;
        second = r;
        parts = a.spells.parts;
        one = a.spells.spelled;
        two = record {
          first = b.spells.front;
          second = q;
          parts = b.spells.parts;
          one = b.spells.spelled;
          two =
              record {
                first = d.spells.front;
                second = m;
                parts = d.spells.parts;
                one = d.spells.spelled;
                two =
                    spelled;
              };
        };
      },
      record { issuer = at; validity = same; subject = on; keyed = there },
    )

-- all fields
abbrev tbs_with : ℕ → Bool → TbsParts → TbsParts
tbs_with serial algorithm t = record {
  serial = serial;
  algorithm = algorithm;
  issuer = t.issuer;
  validity =
      t.validity;
  subject = t.subject;
  key = t.key;
  extensions = t.extensions;
}

pub fields-read : (s r q m : List ℕ) (n : ℕ) (b : Bool) (v : TbsView) → Accepts SpellsVersion s tt r
    → Accepts SpellsSerial r n q → v.serial_number ≡ n → Accepts SpellsRpkiAlgorithm q b m → v.signature ≡ b
    → ((t : TbsParts) × (h : AreNamed t m) × IsNamedIn t m h v.named)
    → (t : TbsParts) × (h : AreFields (fields_of t) s) × IsTbsIn t s h v
fields-read s r q m n b v a c number d same k =
    let (t, spelled, there) = k in (
      tbs_with n b t,
      record {
        first = a.spells.front;
        second = r;
        parts = a.spells.parts;
        one = a.spells.spelled;
        two = record {
          first = c.spells.front;
          second = q;
          parts = c.spells.parts;
          one = c.spells.spelled;
          two =
              record {
                first = d.spells.front;
                second = m;
                parts = d.spells.parts;
                one = d.spells.spelled;
                two =
                    spelled;
              };
        };
      },
      record {
        serial = number;
        algorithm = same;
        named =
            record { issuer = there.issuer; validity = there.validity; subject = there.subject; keyed = there.keyed };
      },
    )

pub tbs-read : (s c : List ℕ) (v : TbsView) → SpellsContents sequence true c s
    → ((t : TbsParts) × (h : AreFields (fields_of t) c) × IsTbsIn t c h v)
    → (t : TbsParts) × (h : SpellsTbs t s) × IsTbsIn t h.contents h.spelled v
tbs-read s c v h k = let (t, spelled, there) = k in (t, record { contents = c; value = h; spelled = spelled }, there)

-- the reader of the fields, whose result is handed on
pub tbs-handed : (s c : List ℕ) (x : Result TbsView CertError) → SpellsContents sequence true c s
    → IfOk x (λ v. (t : TbsParts) × (h : AreFields (fields_of t) c) × IsTbsIn t c h v)
    → IfOk x (λ v. (t : TbsParts) × (h : SpellsTbs t s) × IsTbsIn t h.contents h.spelled v)
tbs-handed s c (Ok v) h k = tbs-read s c v h k
tbs-handed s c (Err q) h k = k

pub tbs-handed-one : (s c : List ℕ) (x : Result TbsView CertError) → SpellsContents sequence true c s
    → IfOk x (λ v. HasOne AreFields c) → IfOk x (λ v. HasOne SpellsTbs s)
tbs-handed-one s c (Ok v) h k = tbs-one s c h k
tbs-handed-one s c (Err q) h k = k

pub tbs-handed-wrong : (allocates : Bool) (s c : List ℕ) (x : Result TbsView CertError)
    → SpellsContents sequence true c s → IfErr x (λ q. AreFieldsWrong allocates c q)
    → IfErr x (λ q. IsTbsWrong allocates s q)
tbs-handed-wrong allocates s c (Ok v) h k = k
tbs-handed-wrong allocates s c (Err q) h k = InFrame c h k

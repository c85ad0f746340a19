-- A certificate that is written is read as the certificate that was to be signed.
use Rattle.std.proofs.Common.{◌≡◌, ◌<◌, ◌^◌, ℕ, true, false, List, [], ◌++◌, length, refl, arith, lit<}
use Rattle.std.proofs.Common.{sym, subst, ap, ◌∙◌, Result, Ok, Err, IfOk}
use Rattle.std.proofs.lemmas.List.{append-nil}
use Rattle.rpki_der.specs.Prelude.{IsTag, sequence, bit_string, IsBits, AreBits, bits_of, bits_contents}
use Rattle.rpki_der.specs.Prelude.{Accepts, sequence_legal}
use Rattle.rpki_der.proofs.EncodeLaws.{leaf-legal, tlv-legal, bits-spelled}
use Rattle.rpki.specs.Oids.{sha256_with_rsa_encryption}
use Rattle.rpki.specs.AlgorithmOctets.{algorithm_octets}
use Rattle.rpki.specs.AlgorithmOctetsLaws.{algorithm-spelled}
use Rattle.rpki.specs.SignedData.{signature_octets, written_contents}
use Rattle.rpki_x509.proofs.WrittenLaws.{back-few, inside-few}
use Rattle.rpki_cert.specs.Cert.{TbsParts, SpellsTbs, cert_parts, SpellsCert}
use Rattle.rpki_cert.proofs.TbsValueLaws.{tbs-value}
use Rattle.rpki.specs.Provider.{Checkers}
use Rattle.rpki.specs.PublicKey.{KeyParts}
use Rattle.rpki_issue.specs.declared.error.IssueError.{IssueError}
use Rattle.rpki_issue.specs.Signing.{written_algorithm, signed_parts, signed_whole, IsShortWhole, AreSigned, ToSign}
use Rattle.rpki_issue.specs.Signing.{IsIssuedCert}

pub string-legal : IsTag bit_string
string-legal = record { below = lit< tt; named = λ _. lit< tt }

pub all-used : (value : List ℕ) → AreBits (bits_of 0 value)
all-used value = record { few = omega arith; none = λ e. refl; zero = omega arith }

pub string-short : (octets value : List ℕ) → IsShortWhole octets value
    → length (bits_contents (bits_of 0 value)) < 2 ^ 32
string-short octets value short =
    let algorithm = algorithm_octets sha256_with_rsa_encryption true in
    inside-few bit_string false (bits_contents (bits_of 0 value))
    (back-few (octets ++ algorithm) (signature_octets 0 value) short)

pub cert-read : (t : TbsParts) (octets value : List ℕ) → SpellsTbs t octets → t.algorithm ≡ true
    → IsShortWhole octets value → SpellsCert (cert_parts (signed_parts octets value) t) (signed_whole octets value)
cert-read t octets value spelled same short =
    let bits = bits_of 0 value in
    let contents = written_contents written_algorithm (signed_parts octets value) in
    record {
      signed = record {
        contents = contents;
        value = tlv-legal sequence true contents sequence_legal short;
        spelled = record {
          text = algorithm_octets sha256_with_rsa_encryption true;
          bits = signature_octets 0 value;
          parts = refl;
          one = tbs-value t octets spelled;
          named = algorithm-spelled sha256_with_rsa_encryption true (lit< tt);
          signature = record {
            unused = 0;
            string = leaf-legal bit_string false IsBits bits (bits_contents bits) string-legal
                (string-short octets value short) (bits-spelled bits (all-used value));
          };
        };
      };
      used = refl;
      tbs = spelled;
      same = same;
    }

-- a reader of octets that are a TBSCertificate reads this one
pub one-tbs : (s o : List ℕ) (v t : TbsParts) (r : List ℕ) → s ≡ o → Accepts SpellsTbs s v r → SpellsTbs t o → t ≡ v
one-tbs s o v t r same accepts spelled =
    (accepts.only t [] (record { front = o; parts = same ∙ sym (append-nil o); spelled = spelled })).0

pub kept-tbs : (s o : List ℕ) (v : TbsParts) (r : List ℕ) → s ≡ o → Accepts SpellsTbs s v r
    → ((t : TbsParts) × SpellsTbs t o × (t.algorithm ≡ true)) → SpellsTbs v o × (v.algorithm ≡ true)
kept-tbs s o v r same accepts (t, spelled, algorithm) =
    let e = one-tbs s o v t r same accepts spelled in
    (subst (λ (w : TbsParts). SpellsTbs w o) e spelled, ap (λ (w : TbsParts). w.algorithm) (sym e) ∙ algorithm)

-- what is signed is the certificate that was to be signed
pub issued : (by : Checkers) (key : KeyParts) (made : ToSign) (value : List ℕ) (r : Result (List ℕ) IssueError)
    → SpellsTbs made.tbs made.octets × (made.tbs.algorithm ≡ true)
    → IfOk r (λ w. AreSigned by key made.octets value w) → IfOk r (λ w. IsIssuedCert by key made value w)
issued by key made value (Ok w) known h =
    let parts = cert_parts (signed_parts made.octets value) made.tbs in
    record {
      signed = h;
      read_back = subst (λ (o : List ℕ). SpellsCert parts o) (sym h.written)
          (cert-read made.tbs made.octets value known.0 known.1 h.short);
    }
issued by key made value (Err e) known h = h

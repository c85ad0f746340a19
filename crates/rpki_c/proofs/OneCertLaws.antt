-- Octets are one certificate at most.
use Rattle.std.proofs.Common.{◌≡◌, ◌∙◌, ℕ, Bool, true, false, List, [], ◌++◌, length, arith, refl, sym, ap, subst}
use Rattle.std.proofs.lemmas.List.{append-nil}
use Rattle.rpki_der.specs.Prelude.{SpellsLeaf, sequence, oid, null, integer, bit_string, IsOnly, IsNull}
use Rattle.rpki_der.specs.Prelude.{IsBits}
use Rattle.rpki_der.proofs.CaptureLaws.{same-ends}
use Rattle.rpki_der.proofs.LeafValueLaws.{leaf-shorter}
use Rattle.rpki_der.proofs.LeavesLaws.{bits-one}
use Rattle.rpki_der.proofs.OneFormatLaws.{leaf-lawful}
use Rattle.rpki_time.specs.Serial.{SpellsSerial}
use Rattle.rpki_time.specs.PeriodValue.{IsPeriod, SpellsPeriod}
use Rattle.rpki_time.proofs.PeriodReadingLaws.{one-period}
use Rattle.rpki.specs.declared.crypto.keys.PublicKeyFormat.TheVariants.{Rsa, EcdsaP256}
use Rattle.rpki.specs.Algorithm.{IsIdentified, IsParameters}
use Rattle.rpki.specs.KeyFormat.{IsFormatContents}
use Rattle.rpki.specs.Name.{SpellsNameOctets}
use Rattle.rpki.specs.Oids.{sha256_with_rsa_encryption, rsa_encryption, ec_public_key}
use Rattle.rpki.specs.PublicKey.{IsKeyContents, SpellsKey}
use Rattle.rpki.proofs.PublicKeyLaws.{same-key}
use Rattle.rpki_x509.specs.Signed.{SpellsRpkiAlgorithm}
use Rattle.rpki_cert.specs.Cert.{AreFields, SpellsCert, SpellsExtensions, SpellsTbs, SpellsVersion, two}
use Rattle.rpki_cert.specs.Cert.{two_value, version_tag}
use Rattle.rpki_cert.specs.View.{HasOne}
use Rattle.rpki_cert.proofs.OneLaws.{cert-one, extensions-one, leaf-first, tbs-one}
use Rattle.rpki_contents.proofs.OneReadingLaws.{IsOneFront, IsOneWhole, around-one, both-one, number-one, whole-one}

-- ---- algorithms

parameters-same : (b d : Bool) (p : List ℕ) → IsParameters b p → IsParameters d p → b ≡ d
parameters-same true true p h k = refl
parameters-same false false p h k = refl
parameters-same true false p h k = absurd (omega (
  arith,
  ap length k,
  leaf-shorter null false IsNull p tt []
      (record { front = p; parts = sym (append-nil p); spelled = h }),
))
parameters-same false true p h k = absurd (omega (
  arith,
  ap length h,
  leaf-shorter null false IsNull p tt []
      (record { front = p; parts = sym (append-nil p); spelled = k }),
))

identified-one : (o : List ℕ) → IsOneWhole (IsIdentified o)
identified-one o s b d h k =
    let e = leaf-first oid false (IsOnly o) (IsOnly o) tt tt h.first k.first h.second k.second h.identifier k.identifier
    (sym h.parts ∙ k.parts) in
    parameters-same b d h.second h.parameters (subst (IsParameters d) (sym e.1) k.parameters)

algorithm-one : IsOneFront SpellsRpkiAlgorithm
algorithm-one =
    around-one sequence (IsIdentified sha256_with_rsa_encryption) (identified-one sha256_with_rsa_encryption)

-- ---- the version, names, the period

version-one : IsOneFront SpellsVersion
version-one =
    around-one version_tag two_value.spells
    (whole-one two_value.spells (leaf-lawful integer (IsOnly two) (λ c v w h k. refl)).one)

name-one : IsOneFront SpellsNameOctets
name-one s v w r q h k =
    let x = h.spelled.named in
    let y = k.spelled.named in
    let e : v ++ r ≡ w ++ q = ap (λ (a : List ℕ). a ++ r) (sym h.spelled.same) ∙ sym h.parts ∙ k.parts
    ∙ ap (λ (a : List ℕ). a ++ q) k.spelled.same in
    let rest = (leaf-first sequence true _ _ x.0 y.0 v w r q x.1 y.1 e).1 in
    ((same-ends v w r q e (ap length rest)).0, rest)

period-one : IsOneFront SpellsPeriod
period-one = around-one sequence IsPeriod (λ c p q h k. sym (one-period c p q h k))

-- ---- keys

format-one : IsOneWhole IsFormatContents
format-one c Rsa Rsa h k = refl
format-one c EcdsaP256 EcdsaP256 h k = refl
format-one c Rsa EcdsaP256 h k =
    let e = leaf-first oid false (IsOnly rsa_encryption) (IsOnly ec_public_key) tt tt h.1.first k.first h.1.second
    k.second h.1.identifier k.one (sym h.1.parts ∙ k.parts) in
    let a = h.1.identifier.spelled in
    let b = k.one.spelled in
    absurd (apart (sym a ∙ e.0 ∙ b))
  where
    apart : rsa_encryption ≡ ec_public_key → ⊥
    apart e = absurd (cc)
format-one c EcdsaP256 Rsa h k =
    let e = leaf-first oid false (IsOnly ec_public_key) (IsOnly rsa_encryption) tt tt h.first k.1.first h.second
    k.1.second h.one k.1.identifier (sym h.parts ∙ k.1.parts) in
    let a = h.one.spelled in
    let b = k.1.identifier.spelled in
    absurd (apart (sym a ∙ e.0 ∙ b))
  where
    apart : ec_public_key ≡ rsa_encryption → ⊥
    apart e = absurd (cc)

key-whole : IsOneWhole IsKeyContents
key-whole c v w h k =
    let e = around-one sequence IsFormatContents format-one c v.format w.format h.second k.second
    (record { front = h.first; parts = h.parts; spelled = h.one })
    (record { front = k.first; parts = k.parts; spelled = k.one }) in
    let bits = whole-one (SpellsLeaf bit_string false IsBits)
    (leaf-lawful bit_string IsBits (λ d a b p q. bits-one b d a q p)).one h.second v.bits w.bits h.two
    (subst (SpellsLeaf bit_string false IsBits w.bits) (sym e.1) k.two) in
    same-key v w e.0 bits

key-one : IsOneFront SpellsKey
key-one = around-one sequence IsKeyContents key-whole

-- ---- all fields

fields-whole : IsOneWhole AreFields
fields-whole =
    both-one SpellsVersion _ version-one
    (both-one SpellsSerial _ number-one
    (both-one SpellsRpkiAlgorithm _ algorithm-one
    (both-one SpellsNameOctets _ name-one
    (both-one SpellsPeriod _ period-one
    (both-one SpellsNameOctets _ name-one
    (both-one SpellsKey SpellsExtensions key-one (λ s v w h k. extensions-one s v w h k)))))))

tbs-whole : (d : List ℕ) → HasOne SpellsTbs d
tbs-whole d t u h k = tbs-one d h.contents h.value (λ v w a b. fields-whole h.contents v w a b) t u h k

pub one-cert : (octets : List ℕ) → HasOne SpellsCert octets
one-cert octets v w h k =
    cert-one octets h.signed.contents v.signed.signed v.signed h.signed.value h.signed.spelled refl
    (tbs-whole v.signed.signed) v w h k

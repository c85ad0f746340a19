-- Formats of keys and signatures of signed objects, from the object identifier that was read.
use Rattle.std.proofs.Common.{Result, Ok, Err, ◌≡◌, ◌⊎◌, ℕ, Bool, true, false, List, [], inl, inr, refl, sym, ◌∙◌}
use Rattle.std.proofs.Common.{subst, lit<, arith, ◌<◌, ◌^◌, length, length-append}
use Rattle.rpki_der.specs.declared.error.DecodeError.{DecodeError}
use Rattle.rpki_der.specs.Prelude.{oid, null, sequence, tlv, Spells, Accepts, Refuses, SpellsNothing, ReadsParts, Later}
use Rattle.rpki.specs.AlgorithmFault.{parameters, cms_parts}
use Rattle.rpki_der.proofs.ReadingLaws.{UnlessMemory-weaker}
use Rattle.rpki_der.specs.Prelude.{SpellsLeaf, IsOid, IsOidOf, IsOnly, IsNull, sequence_legal}
use Rattle.rpki_der.proofs.EncodeLaws.{leaf-legal, tlv_at_most}
use Rattle.rpki.specs.declared.crypto.keys.PublicKeyFormat.{PublicKeyFormat}
use Rattle.rpki.specs.declared.crypto.keys.PublicKeyFormat.TheVariants.{Rsa, EcdsaP256}
use Rattle.rpki.specs.Oids.{rsa_encryption, sha256_with_rsa_encryption, ec_public_key, secp256r1}
use Rattle.rpki.specs.Algorithm.{IsIdentified, IsParameters}
use Rattle.rpki.specs.AlgorithmOctets.{parameters_octets, identified_octets}
use Rattle.rpki.specs.AlgorithmOctetsLaws.{identified-short, oid-legal, null-legal}
use Rattle.rpki.specs.KeyFormat.{IsFormatContents, SpellsFormat, format_contents, format_octets}
use Rattle.rpki.specs.SignatureNames.{IsCmsContents}
use Rattle.rpki_der.proofs.PartsLaws.{both-read, no-first, no-second}
use Rattle.rpki.proofs.NamedLaws.{plain-oid, named, one-name, other-name, no-name, identified-read, not-identified}
use Rattle.rpki.proofs.NamedLaws.{no-parameters}

rsa-valid : IsOid rsa_encryption
rsa-valid = plain-oid rsa_encryption refl (lit< tt) (lit< tt)

ec-valid : IsOid ec_public_key
ec-valid = plain-oid ec_public_key refl (lit< tt) (lit< tt)

rsa-signature-valid : IsOid sha256_with_rsa_encryption
rsa-signature-valid = plain-oid sha256_with_rsa_encryption refl (lit< tt) (lit< tt)

abbrev Named : List ℕ → Unit {0} → List ℕ → Type 0
Named o = SpellsLeaf oid false (IsOnly o)

abbrev AnyName : List ℕ → List ℕ → Type 0
AnyName = SpellsLeaf oid false IsOidOf

-- the name of what is there
this-name : (c x m o : List ℕ) → Accepts AnyName c x m → x ≡ o → Accepts (Named o) c tt m
this-name c x m o a e = subst (λ (y : List ℕ). Accepts (Named y) c tt m) e (named c x m a)

-- ---- formats of keys

pub no-format : (c : List ℕ) → Refuses AnyName c → SpellsNothing IsFormatContents c
no-format c none Rsa h = not-identified rsa_encryption c (no-name c rsa_encryption rsa-valid none) h.0 h.1
no-format c none EcdsaP256 h =
    no-first (Named ec_public_key) (Named secp256r1) c (no-name c ec_public_key ec-valid none) tt tt h

pub other-format : (c x m : List ℕ) → Accepts AnyName c x m → (x ≡ rsa_encryption → ⊥) → (x ≡ ec_public_key → ⊥)
    → SpellsNothing IsFormatContents c
other-format c x m a ne ne' Rsa h =
    not-identified rsa_encryption c (other-name c x m rsa_encryption a.spells ne) h.0 h.1
other-format c x m a ne ne' EcdsaP256 h =
    no-first (Named ec_public_key) (Named secp256r1) c (other-name c x m ec_public_key a.spells ne') tt tt h

pub rsa-read : (c x m : List ℕ) (b : Bool) → Accepts AnyName c x m → x ≡ rsa_encryption
    → IsParameters b m × ((w : Bool) → IsParameters w m → w ≡ b)
    → IsFormatContents Rsa c × ((w : PublicKeyFormat) → IsFormatContents w c → w ≡ Rsa)
rsa-read c x m b a e h =
    ((b, (identified-read rsa_encryption c m b (this-name c x m rsa_encryption a e) h).0), only) where
      only : (w : PublicKeyFormat) → IsFormatContents w c → w ≡ Rsa
      only Rsa k = refl
      only EcdsaP256 k = absurd (no-first (Named ec_public_key) (Named secp256r1) c
          (other-name c x m ec_public_key a.spells (λ f. let g : rsa_encryption ≡ ec_public_key = sym e ∙ f in cc)) tt
          tt k)

pub rsa-not-read : (c x m : List ℕ) → Accepts AnyName c x m → x ≡ rsa_encryption → SpellsNothing IsParameters m
    → SpellsNothing IsFormatContents c
rsa-not-read c x m a e none Rsa h = no-parameters rsa_encryption c m (this-name c x m rsa_encryption a e) none h.0 h.1
rsa-not-read c x m a e none EcdsaP256 h =
    no-first (Named ec_public_key) (Named secp256r1) c
    (other-name c x m ec_public_key a.spells (λ f. let g : rsa_encryption ≡ ec_public_key = sym e ∙ f in cc)) tt tt
    h

pub ec-read : (c x m : List ℕ) → Accepts AnyName c x m → x ≡ ec_public_key
    → Named secp256r1 tt m × ((w : Unit {0}) → Named secp256r1 w m → w ≡ tt)
    → IsFormatContents EcdsaP256 c × ((w : PublicKeyFormat) → IsFormatContents w c → w ≡ EcdsaP256)
ec-read c x m a e h =
    ((both-read (Named ec_public_key) (Named secp256r1) c m tt tt (this-name c x m ec_public_key a e) h).0, only) where
      only : (w : PublicKeyFormat) → IsFormatContents w c → w ≡ EcdsaP256
      only EcdsaP256 k = refl
      only Rsa k = absurd (not-identified rsa_encryption c
          (other-name c x m rsa_encryption a.spells (λ f. let g : ec_public_key ≡ rsa_encryption = sym e ∙ f in cc)) k.0
          k.1)

pub ec-not-read : (c x m : List ℕ) → Accepts AnyName c x m → x ≡ ec_public_key → SpellsNothing (Named secp256r1) m
    → SpellsNothing IsFormatContents c
ec-not-read c x m a e none EcdsaP256 h =
    no-second (Named ec_public_key) (Named secp256r1) c m tt (this-name c x m ec_public_key a e) none tt tt h
ec-not-read c x m a e none Rsa h =
    not-identified rsa_encryption c (other-name c x m rsa_encryption a.spells
    (λ f. let g : ec_public_key ≡ rsa_encryption = sym e ∙ f in cc)) h.0 h.1

-- ---- what is written

pub format-short : (f : PublicKeyFormat) → length (format_contents f) < 2 ^ 32
format-short Rsa = identified-short rsa_encryption true (lit< tt)
format-short EcdsaP256 = omega (
  arith,
  length-append (tlv oid false ec_public_key) (tlv oid false secp256r1),
  tlv_at_most oid false ec_public_key,
  tlv_at_most oid false secp256r1,
)

parameters-spelled : (present : Bool) → IsParameters present (parameters_octets present)
parameters-spelled true = leaf-legal null false IsNull tt [] null-legal (lit< tt) refl
parameters-spelled false = refl

pub identified-spelled : (o : List ℕ) (present : Bool) → length o < 2 ^ 31
    → IsIdentified o present (identified_octets o present)
identified-spelled o present short = record {
  first = tlv oid false o;
  second = parameters_octets present;
  parts = refl;
  identifier = leaf-legal oid false (IsOnly o) tt o oid-legal (omega arith) refl;
  parameters = parameters-spelled present;
}

pub format-spelled : (f : PublicKeyFormat) → SpellsFormat f (format_octets f)
format-spelled f =
    leaf-legal sequence true IsFormatContents f (format_contents f) sequence_legal (format-short f) (inside f) where
      inside : (f : PublicKeyFormat) → IsFormatContents f (format_contents f)
      inside Rsa = (true, identified-spelled rsa_encryption true (lit< tt))
      inside EcdsaP256 = record {
        first = tlv oid false ec_public_key;
        second = tlv oid false secp256r1;
        parts = refl;
        one = leaf-legal oid false (IsOnly ec_public_key) tt ec_public_key oid-legal (lit< tt) refl;
        two = leaf-legal oid false (IsOnly secp256r1) tt secp256r1 oid-legal (lit< tt) refl;
      }

-- ---- signatures of signed objects

pub no-cms : (c : List ℕ) → Refuses AnyName c → SpellsNothing IsCmsContents c
no-cms c none b (inl h) = not-identified rsa_encryption c (no-name c rsa_encryption rsa-valid none) b h
no-cms c none b (inr h) =
    not-identified sha256_with_rsa_encryption c (no-name c sha256_with_rsa_encryption rsa-signature-valid none) b h

pub other-cms : (c x m : List ℕ) → Accepts AnyName c x m → (x ≡ rsa_encryption → ⊥)
    → (x ≡ sha256_with_rsa_encryption → ⊥) → SpellsNothing IsCmsContents c
other-cms c x m a ne ne' b (inl h) = not-identified rsa_encryption c (other-name c x m rsa_encryption a.spells ne) b h
other-cms c x m a ne ne' b (inr h) =
    not-identified sha256_with_rsa_encryption c (other-name c x m sha256_with_rsa_encryption a.spells ne') b h

-- whichever of the two it is, the parameters are those that follow it
cms-parameters : (c x m : List ℕ) (b : Bool) → Accepts AnyName c x m → IsCmsContents b c → IsParameters b m
cms-parameters c x m b a (inl h) = follows rsa_encryption h where
  follows : (o : List ℕ) → IsIdentified o b c → IsParameters b m
  follows o k =
      let p : Spells (Named o) c tt k.second = record { front = k.first; parts = k.parts; spelled = k.identifier } in
      let e : Accepts (Named o) c tt m = this-name c x m o a (one-name c x m o k.second a.spells p) in
      subst (λ (l : List ℕ). IsParameters b l) (e.only tt k.second p).1 k.parameters
cms-parameters c x m b a (inr h) = follows sha256_with_rsa_encryption h where
  follows : (o : List ℕ) → IsIdentified o b c → IsParameters b m
  follows o k =
      let p : Spells (Named o) c tt k.second = record { front = k.first; parts = k.parts; spelled = k.identifier } in
      let e : Accepts (Named o) c tt m = this-name c x m o a (one-name c x m o k.second a.spells p) in
      subst (λ (l : List ℕ). IsParameters b l) (e.only tt k.second p).1 k.parameters

pub cms-read : (c x m : List ℕ) (b : Bool) → Accepts AnyName c x m
    → (x ≡ rsa_encryption) ⊎ (x ≡ sha256_with_rsa_encryption)
    → IsParameters b m × ((w : Bool) → IsParameters w m → w ≡ b)
    → IsCmsContents b c × ((w : Bool) → IsCmsContents w c → w ≡ b)
cms-read c x m b a (inl e) h = (
  inl (identified-read rsa_encryption c m b (this-name c x m rsa_encryption a e) h).0,
  λ w
      k. h.1 w (cms-parameters c x m w a k),
)
cms-read c x m b a (inr e) h = (
  inr (identified-read sha256_with_rsa_encryption c m b (this-name c x m sha256_with_rsa_encryption a e) h).0,
  λ w k.
      h.1 w (cms-parameters c x m w a k),
)

pub cms-not-read : (c x m : List ℕ) → Accepts AnyName c x m → SpellsNothing IsParameters m
    → SpellsNothing IsCmsContents c
cms-not-read c x m a none b h = none b (cms-parameters c x m b a h)

pub cms-all : (c x m r : List ℕ) (y : Result Bool DecodeError) → Accepts AnyName c x m
    → (x ≡ rsa_encryption) ⊎ (x ≡ sha256_with_rsa_encryption)
    → ReadsParts (λ b. b) IsParameters parameters.fault m r y → ReadsParts (λ b. b) IsCmsContents cms_parts.fault c r y
cms-all c x m r (Ok b) a known h = (
  λ end. cms-read c x m b a known (h.0 end),
  λ some.
      (cms-not-read c x m a (h.1 some).0, Later x m a (inl (known, (h.1 some).1))),
)
cms-all c x m r (Err e) a known h = (UnlessMemory-weaker e (cms-not-read c x m a) h.0, Later x m a (inl (known, h.1)))

-- What is shown of a certificate of any algorithms: the fields of a certificate, and that the RPKI doesn't use its
-- algorithms.
use Rattle.std.specs.Prelude.{◌≡◌, ℕ, Bool, true, false, nat_lt, nat_eq, if◌then◌else◌, List, [], ◌∷◌, ◌++◌, map, codes}
use Rattle.std.specs.Prelude.{bytes_eq, Option, Some, None}
use Rattle.sha1.specs.Sha1.{sha1}
use Rattle.rpki.specs.Oids.{rsa_encryption, ec_public_key}
use Rattle.rpki_fields.specs.Field.{FieldParts, field_parts, number_parts, size_if}
use Rattle.rpki_fields.specs.IdentifierText.{identifier_text}
use Rattle.rpki_fields.specs.ValueText.{hex_digits, colon_digits}
use Rattle.rpki_fields.specs.NameText.{IsNameText}
use Rattle.rpki_fields.specs.KeySize.{IsRsaSize}
use Rattle.rpki_fields.specs.CertText.{AreMiddle, extension_field, fingerprint_text}
use Rattle.rpki_fields.specs.OtherCert.{AlgorithmParts, OtherKeyParts, OtherCertParts, extensions_of}
use Rattle.rpki_fields.specs.OtherCert.{has_octets, prime256v1, signs_rpki}

-- ---- names of algorithms, by their object identifiers

-- on elliptic curves: 1.2.840.10045.2.1, 1.2.840.10045.4.1, 1.2.840.10045.4.3.1 to 4 (RFC 5480 2.1.1, RFC 5758 3.2);
-- 1.3.101.112, 1.3.101.113 (RFC 8410 3); of another its arcs
abbrev pub curve_algorithm_name : List ℕ → List ℕ
curve_algorithm_name id =
    if bytes_eq id (42 ∷ 134 ∷ 72 ∷ 206 ∷ 61 ∷ 2 ∷ 1 ∷ []) then codes "id-ecPublicKey"
    else if bytes_eq id (42 ∷ 134 ∷ 72 ∷ 206 ∷ 61 ∷ 4 ∷ 1 ∷ []) then codes "ecdsa-with-SHA1"
    else if bytes_eq id (42 ∷ 134 ∷ 72 ∷ 206 ∷ 61 ∷ 4 ∷ 3 ∷ 1 ∷ []) then codes "ecdsa-with-SHA224"
    else if bytes_eq id (42 ∷ 134 ∷ 72 ∷ 206 ∷ 61 ∷ 4 ∷ 3 ∷ 2 ∷ []) then codes "ecdsa-with-SHA256"
    else if bytes_eq id (42 ∷ 134 ∷ 72 ∷ 206 ∷ 61 ∷ 4 ∷ 3 ∷ 3 ∷ []) then codes "ecdsa-with-SHA384"
    else if bytes_eq id (42 ∷ 134 ∷ 72 ∷ 206 ∷ 61 ∷ 4 ∷ 3 ∷ 4 ∷ []) then codes "ecdsa-with-SHA512"
    else if bytes_eq id (43 ∷ 101 ∷ 112 ∷ []) then codes "ED25519"
    else if bytes_eq id (43 ∷ 101 ∷ 113 ∷ []) then codes "ED448"
    else identifier_text id

-- those of RSA: 1.2.840.113549.1.1.1, 4, 5, 10 to 14 (RFC 8017 A.2, C)
abbrev pub algorithm_name : List ℕ → List ℕ
algorithm_name id =
    if bytes_eq id (42 ∷ 134 ∷ 72 ∷ 134 ∷ 247 ∷ 13 ∷ 1 ∷ 1 ∷ 1 ∷ []) then codes "rsaEncryption"
    else if bytes_eq id (42 ∷ 134 ∷ 72 ∷ 134 ∷ 247 ∷ 13 ∷ 1 ∷ 1 ∷ 4 ∷ []) then codes "md5WithRSAEncryption"
    else if bytes_eq id (42 ∷ 134 ∷ 72 ∷ 134 ∷ 247 ∷ 13 ∷ 1 ∷ 1 ∷ 5 ∷ []) then codes "sha1WithRSAEncryption"
    else if bytes_eq id (42 ∷ 134 ∷ 72 ∷ 134 ∷ 247 ∷ 13 ∷ 1 ∷ 1 ∷ 10 ∷ []) then codes "rsassaPss"
    else if bytes_eq id (42 ∷ 134 ∷ 72 ∷ 134 ∷ 247 ∷ 13 ∷ 1 ∷ 1 ∷ 11 ∷ []) then codes "sha256WithRSAEncryption"
    else if bytes_eq id (42 ∷ 134 ∷ 72 ∷ 134 ∷ 247 ∷ 13 ∷ 1 ∷ 1 ∷ 12 ∷ []) then codes "sha384WithRSAEncryption"
    else if bytes_eq id (42 ∷ 134 ∷ 72 ∷ 134 ∷ 247 ∷ 13 ∷ 1 ∷ 1 ∷ 13 ∷ []) then codes "sha512WithRSAEncryption"
    else if bytes_eq id (42 ∷ 134 ∷ 72 ∷ 134 ∷ 247 ∷ 13 ∷ 1 ∷ 1 ∷ 14 ∷ []) then codes "sha224WithRSAEncryption"
    else curve_algorithm_name id

-- ---- keys

-- the OBJECT IDENTIFIERs of secp384r1 and secp521r1 (RFC 5480 2.1.1.1)
abbrev pub secp384r1 : List ℕ
secp384r1 = 6 ∷ 5 ∷ 43 ∷ 129 ∷ 4 ∷ 0 ∷ 34 ∷ []

abbrev pub secp521r1 : List ℕ
secp521r1 = 6 ∷ 5 ∷ 43 ∷ 129 ∷ 4 ∷ 0 ∷ 35 ∷ []

-- the name of a curve that parameters name, after a space; nothing where it isn't known
abbrev pub curve_name : Option (List ℕ) → List ℕ
curve_name parameters =
    if has_octets parameters prime256v1 then codes " prime256v1"
    else if has_octets parameters secp384r1 then codes " secp384r1"
    else if has_octets parameters secp521r1 then codes " secp521r1"
    else []

-- the algorithm of a key, with its curve where it has one
abbrev pub key_name : AlgorithmParts → List ℕ
key_name x =
    algorithm_name x.identifier ++ (if bytes_eq x.identifier ec_public_key then curve_name x.parameters else [])

-- how many bits a key on a curve has, where that is known
abbrev pub curve_size : Option (List ℕ) → Option (List ℕ)
curve_size parameters =
    if has_octets parameters prime256v1 then Some (codes "256")
    else if has_octets parameters secp384r1 then Some (codes "384")
    else if has_octets parameters secp521r1 then Some (codes "521")
    else None

abbrev pub size_by_curve : AlgorithmParts → Option (List ℕ)
size_by_curve x = if bytes_eq x.identifier ec_public_key then curve_size x.parameters else None

-- how many bits a key has: of RSA those of the modulus
abbrev pub IsSizeBy : (rsa : Bool) → OtherKeyParts → Option (List ℕ) → Type 0
IsSizeBy true k o = (text : List ℕ) × IsRsaSize k.bits.octets text × (o ≡ Some text)
IsSizeBy false k o = o ≡ size_by_curve k.algorithm

abbrev pub IsOtherSize : OtherKeyParts → Option (List ℕ) → Type 0
IsOtherSize k = IsSizeBy (bytes_eq k.algorithm.identifier rsa_encryption) k

-- the algorithm, the size where it is known, and the digest by SHA-1 of the bits
abbrev pub AreOtherKey : OtherKeyParts → List FieldParts → Type 0
AreOtherKey k fields =
    (size : Option (List ℕ)) × IsOtherSize k size
    × (fields ≡ field_parts (codes "Public Key Algorithm") (key_name k.algorithm)
    ∷ size_if (codes "Public Key Bits") size
    ++ field_parts (codes "Public Key SHA-1") (colon_digits (sha1 k.bits.octets)) ∷ [])

-- ---- the serial number: as digits, without a zero octet in front; the octets of a negative one, after a word

abbrev pub without_zero : List ℕ → List ℕ
without_zero [] = []
without_zero (x ∷ []) = x ∷ []
without_zero (x ∷ y ∷ zs) = if nat_eq x 0 then y ∷ zs else x ∷ y ∷ zs

abbrev pub is_negative : List ℕ → Bool
is_negative [] = false
is_negative (x ∷ xs) = nat_lt 127 x

abbrev pub integer_text : List ℕ → List ℕ
integer_text contents =
    if is_negative contents then codes "negative " ++ hex_digits contents else hex_digits (without_zero contents)

-- ---- all of it

-- which of the algorithms the RPKI doesn't use (RFC 7935 2, 3): that of the signature first
abbrev pub unused_algorithm : OtherCertParts → List ℕ
unused_algorithm c =
    if signs_rpki c.algorithm then codes "with a key of " ++ key_name c.tbs.key.algorithm
    else codes "signed by " ++ algorithm_name c.algorithm.identifier

abbrev pub objection : OtherCertParts → List ℕ
objection c = unused_algorithm c ++ codes ", which the RPKI doesn't use"

-- type, version, serial number, signature algorithm, what is not of the RPKI, and issuer
abbrev pub AreOtherHead : OtherCertParts → List FieldParts → Type 0
AreOtherHead c fields =
    (issuer : List ℕ) × IsNameText c.tbs.issuer issuer
    × (fields ≡ field_parts (codes "Type") (codes "certificate") ∷ number_parts (codes "Version") 3
    ∷ field_parts (codes "Cert Serial") (integer_text c.tbs.serial)
    ∷ field_parts (codes "Signature Algorithm") (algorithm_name c.algorithm.identifier)
    ∷ field_parts (codes "RPKI Profile") (objection c)
    ∷ field_parts (codes "Cert Issuer") issuer ∷ [])

-- the fields of the certificate that these octets are, in order
pub record AreOtherFields (octets : List ℕ) (c : OtherCertParts) (fields : List FieldParts) : Type 0 where
  pub head : List FieldParts
  pub middle : List FieldParts
  pub key : List FieldParts
  pub are_head : AreOtherHead c head
  pub are_middle : AreMiddle c.tbs.validity c.tbs.subject middle
  pub are_key : AreOtherKey c.tbs.key key
  pub parts : fields ≡ head ++ middle ++ key ++ map extension_field (extensions_of c.tbs.optional.extensions)
      ++ field_parts (codes "SHA-256 Fingerprint") (fingerprint_text octets) ∷ []

-- Further algorithm identifiers of signatures.
use Rattle.std.specs.Prelude.{◌≡◌, ◌⊎◌, ℕ, Bool, true, false, List}
use Rattle.rpki_der.specs.Prelude.{oid, sequence, tlv, SpellsLeaf, IsOnly}
use Rattle.rpki.specs.Oids.{rsa_encryption, sha256_with_rsa_encryption}
use Rattle.rpki.specs.Algorithm.{IsIdentified}

-- the algorithm identifier of this object identifier, which has no parameters (RFC 8608 2, RFC 5758 3.2)
abbrev pub SpellsBare : List ℕ → Unit {0} → List ℕ → Type 0
SpellsBare o = SpellsLeaf sequence true (SpellsLeaf oid false (IsOnly o))

abbrev pub bare_octets : List ℕ → List ℕ
bare_octets o = tlv sequence true (tlv oid false o)

-- the identifiers of RSA signatures in signed objects (RFC 7935 2)
abbrev pub IsCmsName : List ℕ → Type 0
IsCmsName o = (o ≡ rsa_encryption) ⊎ (o ≡ sha256_with_rsa_encryption)

-- one of them, with a NULL or without
abbrev pub IsCmsContents : Bool → List ℕ → Type 0
IsCmsContents present c = IsIdentified rsa_encryption present c ⊎ IsIdentified sha256_with_rsa_encryption present c

abbrev pub SpellsCms : Bool → List ℕ → Type 0
SpellsCms = SpellsLeaf sequence true IsCmsContents

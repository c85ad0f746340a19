-- The algorithm identifier of SHA-256 (RFC 5754 2.2, RFC 7935 2).
use Rattle.std.specs.Prelude.{ℕ, Bool, true, false, List}
use Rattle.rpki_der.specs.Prelude.{oid, sequence, set, tlv, SpellsLeaf, IsOnly}
use Rattle.rpki.specs.Oids.{sha256}
use Rattle.rpki.specs.Algorithm.{IsIdentified}
use Rattle.rpki.specs.SignatureNames.{bare_octets}

-- the identifier, with a NULL or without
abbrev pub IsDigestContents : Unit {0} → List ℕ → Type 0
IsDigestContents v c = (present : Bool) × IsIdentified sha256 present c

abbrev pub SpellsDigest : Unit {0} → List ℕ → Type 0
SpellsDigest = SpellsLeaf sequence true IsDigestContents

-- a SET of exactly one of them
abbrev pub SpellsDigestSet : Unit {0} → List ℕ → Type 0
SpellsDigestSet = SpellsLeaf set true SpellsDigest

-- the object identifier alone
abbrev pub SpellsDigestName : Unit {0} → List ℕ → Type 0
SpellsDigestName = SpellsLeaf oid false (IsOnly sha256)

-- what is written: without a NULL
abbrev pub digest_octets : List ℕ
digest_octets = bare_octets sha256

abbrev pub digest_set_octets : List ℕ
digest_set_octets = tlv set true digest_octets

abbrev pub digest_name_octets : List ℕ
digest_name_octets = tlv oid false sha256

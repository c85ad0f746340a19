-- The one spelling of an algorithm identifier that has no parameters.
use Rattle.std.specs.Prelude.{ℕ, ◌<◌, ◌^◌, true, false, List, length, refl}
use Rattle.std.proofs.Common.{arith}
use Rattle.rpki_der.specs.Prelude.{oid, sequence, tlv, IsOnly, SpellsLeaf, IsValue, sequence_legal}
use Rattle.rpki_der.proofs.EncodeLaws.{leaf-legal, tlv_at_most}
use Rattle.rpki_der.proofs.LeafValueLaws.{leaf-value-alone, composed-value-alone}
use Rattle.rpki.specs.AlgorithmOctetsLaws.{oid-legal}
use Rattle.rpki.specs.SignatureNames.{SpellsBare, bare_octets}

pub bare-short : (o : List ℕ) → length o < 2 ^ 31 → length (tlv oid false o) < 2 ^ 32
bare-short o short = omega (arith, tlv_at_most oid false o)

-- what is written is the identifier
pub bare-spelled : (o : List ℕ) (v : Unit {0}) → length o < 2 ^ 31 → SpellsBare o v (bare_octets o)
bare-spelled o v short =
    leaf-legal sequence true (SpellsLeaf oid false (IsOnly o)) v (tlv oid false o) sequence_legal (bare-short o short)
    (leaf-legal oid false (IsOnly o) v o oid-legal (omega arith) refl)

-- the identifier is one value
pub bare-value : (o : List ℕ) (v : Unit {0}) (s : List ℕ) → SpellsBare o v s → IsValue s
bare-value o v s h = composed-value-alone sequence (SpellsLeaf oid false (IsOnly o)) v s
    (λ c k. (1, leaf-value-alone oid (IsOnly o) v c k)) h

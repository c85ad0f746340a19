-- The algorithm identifier of SHA-256 that is written is read again.
use Rattle.std.proofs.Common.{true, false, ◌<◌, ◌^◌, [], length, append-nil, sym, refl, lit<, arith}
use Rattle.rpki_der.specs.Prelude.{oid, sequence, set, tlv, IsOnly, sequence_legal, set_legal}
use Rattle.rpki_der.proofs.EncodeLaws.{leaf-legal, tlv_at_most}
use Rattle.rpki.specs.Oids.{sha256}
use Rattle.rpki.specs.AlgorithmOctetsLaws.{oid-legal}
use Rattle.rpki.specs.BareOctetsLaws.{bare-short}
use Rattle.rpki.specs.Digest.{IsDigestContents, SpellsDigest, SpellsDigestSet, digest_octets, digest_set_octets}

pub digest-spelled : SpellsDigest tt digest_octets
digest-spelled =
    leaf-legal sequence true IsDigestContents tt (tlv oid false sha256) sequence_legal (bare-short sha256 (lit< tt)) (
      false,
      record {
        first = tlv oid false sha256;
        second = [];
        parts = sym (append-nil (tlv oid false sha256));
        identifier = leaf-legal oid false (IsOnly sha256) tt sha256 oid-legal (lit< tt) refl;
        parameters = refl;
      },
    )

pub digest-short : length digest_octets < 2 ^ 32
digest-short = omega (arith, tlv_at_most sequence true (tlv oid false sha256), tlv_at_most oid false sha256)

pub digest-set-spelled : SpellsDigestSet tt digest_set_octets
digest-set-spelled = leaf-legal set true SpellsDigest tt digest_octets set_legal digest-short digest-spelled

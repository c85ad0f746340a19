-- A certificate of any algorithms has one list of fields.
use Rattle.std.proofs.Common.{◌≡◌, ℕ, Bool, true, false, List, sym, ap, ◌∙◌}
use Rattle.std.specs.Prelude.{Option, Some, bytes_eq}
use Rattle.rpki.specs.Oids.{rsa_encryption}
use Rattle.rpki_fields.specs.Field.{FieldParts}
use Rattle.rpki_fields.specs.OtherCert.{OtherKeyParts, OtherCertParts}
use Rattle.rpki_fields.specs.OtherText.{IsSizeBy, AreOtherKey, AreOtherHead, AreOtherFields}
use Rattle.rpki_fields.proofs.OneTextLaws.{one-name-text, one-rsa-size, one-middle}

one-size-by : (rsa : Bool) (k : OtherKeyParts) (o p : Option (List ℕ)) → IsSizeBy rsa k o → IsSizeBy rsa k p → o ≡ p
one-size-by true k o p g h =
    g.2 ∙ ap (λ (w : List ℕ). Some w) (one-rsa-size k.bits.octets g.0 h.0 g.1 h.1) ∙ sym h.2
one-size-by false k o p g h = g ∙ sym h

one-other-key : (k : OtherKeyParts) (xs ys : List FieldParts) → AreOtherKey k xs → AreOtherKey k ys → xs ≡ ys
one-other-key k xs ys g h =
    let size = one-size-by (bytes_eq k.algorithm.identifier rsa_encryption) k g.0 h.0 g.1 h.1 in
    (rw size at g.2) ∙ sym h.2

one-other-head : (c : OtherCertParts) (xs ys : List FieldParts) → AreOtherHead c xs → AreOtherHead c ys → xs ≡ ys
one-other-head c xs ys g h =
    let issuer = one-name-text c.tbs.issuer g.0 h.0 g.1 h.1 in
    (rw issuer at g.2) ∙ sym h.2

pub one-other-fields : (octets : List ℕ) (c : OtherCertParts) (xs ys : List FieldParts) → AreOtherFields octets c xs
    → AreOtherFields octets c ys → xs ≡ ys
one-other-fields octets c xs ys g h =
    let head = one-other-head c g.head h.head g.are_head h.are_head in
    let middle = one-middle c.tbs.validity c.tbs.subject g.middle h.middle g.are_middle h.are_middle in
    let key = one-other-key c.tbs.key g.key h.key g.are_key h.are_key in
    (rw (head, middle, key) at g.parts) ∙ sym h.parts

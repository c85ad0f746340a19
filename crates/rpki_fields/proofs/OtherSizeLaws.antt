-- How many bits a key of any algorithm has, and what is said of a key that the RPKI doesn't use.
use Rattle.std.proofs.Common.{◌≡◌, ◌++◌, ℕ, Bool, true, List, refl, sym, subst, append_assoc}
use Rattle.std.specs.Prelude.{Some, bytes_eq, codes}
use Rattle.rpki.specs.Oids.{rsa_encryption}
use Rattle.rpki_fields.specs.KeySize.{IsRsaSize}
use Rattle.rpki_fields.specs.OtherCert.{OtherKeyParts, OtherCertParts, signs_rpki}
use Rattle.rpki_fields.specs.OtherText.{IsSizeBy, IsOtherSize, key_name, unused_algorithm}

pub rsa-size-is : (k : OtherKeyParts) (text : List ℕ) → bytes_eq k.algorithm.identifier rsa_encryption ≡ true
    → IsRsaSize k.bits.octets text → IsOtherSize k (Some text)
rsa-size-is k text e h = subst (λ (b : Bool). IsSizeBy b k (Some text)) (sym e) (text, h, refl)

pub with-key : (c : OtherCertParts) (old : List ℕ) → signs_rpki c.algorithm ≡ true
    → (old ++ codes "with a key of ") ++ key_name c.tbs.key.algorithm ≡ old ++ unused_algorithm c
with-key c old e = rw e (append_assoc old (codes "with a key of ") (key_name c.tbs.key.algorithm))

-- The parts of a certificate that may be left out begin with different tags.
use Rattle.std.proofs.Common.{◌≡◌, ℕ, List, true, ap, arith}
use Rattle.rpki_der.specs.Prelude.{TagName, HasTag, Spells, only, end}
use Rattle.rpki_der.proofs.FormatLaws.{Apart}
use Rattle.rpki_der.proofs.LeavesLaws.{leaf-tag}
use Rattle.rpki.specs.ExtensionValue.{ExtensionParts}
use Rattle.rpki_cert.specs.Cert.{extensions_tag}
use Rattle.rpki_fields.specs.OtherCert.{issuer_id_tag, subject_id_tag, unique_id, any_extension_list, any_extensions}
use Rattle.rpki_fields.specs.OtherCert.{extensions_if, subject_id_if}
use Rattle.rpki_fields.proofs.OtherCertLaws.{end-apart, optional-apart, octets-begin}

other-subject : subject_id_tag ≡ extensions_tag → ⊥
other-subject e = let n = ap (λ (t : TagName). t.number) e in omega (arith, n)

other-issuer : issuer_id_tag ≡ extensions_tag → ⊥
other-issuer e = let n = ap (λ (t : TagName). t.number) e in omega (arith, n)

other-id : issuer_id_tag ≡ subject_id_tag → ⊥
other-id e = let n = ap (λ (t : TagName). t.number) e in omega (arith, n)

extensions-begin : (s : List ℕ) (xs : List ExtensionParts) (r : List ℕ) → Spells any_extensions.spells s xs r
    → HasTag extensions_tag s
extensions-begin s xs r h = leaf-tag extensions_tag true (only any_extension_list).spells s xs r h

pub extensions-apart : Apart extensions_tag any_extensions end
extensions-apart = end-apart extensions_tag any_extensions extensions-begin

pub subject-apart : Apart subject_id_tag (unique_id subject_id_tag) extensions_if
subject-apart =
    optional-apart subject_id_tag extensions_tag (unique_id subject_id_tag) any_extensions end
    other-subject (octets-begin subject_id_tag) extensions-begin
    (end-apart subject_id_tag (unique_id subject_id_tag) (octets-begin subject_id_tag)).apart

issuer-from-extensions : Apart issuer_id_tag (unique_id issuer_id_tag) extensions_if
issuer-from-extensions =
    optional-apart issuer_id_tag extensions_tag (unique_id issuer_id_tag) any_extensions end
    other-issuer (octets-begin issuer_id_tag) extensions-begin
    (end-apart issuer_id_tag (unique_id issuer_id_tag) (octets-begin issuer_id_tag)).apart

pub issuer-apart : Apart issuer_id_tag (unique_id issuer_id_tag) subject_id_if
issuer-apart =
    optional-apart issuer_id_tag subject_id_tag (unique_id issuer_id_tag) (unique_id subject_id_tag) extensions_if
    other-id (octets-begin issuer_id_tag) (octets-begin subject_id_tag)
    issuer-from-extensions.apart

use Rattle.std.proofs.Common.{◌∙◌, refl, sym}
use Rattle.rpki_der.specs.TagName.{ia5_string}
use Rattle.rpki_der.specs.Format.{octets_under, kept}
use Rattle.rpki_der.proofs.ChoiceLaws.{such-read}
use Rattle.rpki_der.proofs.TriedLaws.{tried-refused}
use Rattle.rpki_contents.specs.ListedFile.{IsName, kept_name}
use Rattle.rpki_x509.proofs.SuchLaws.{not-there, malformed, not-so}
use Rattle.rpki_contents.proofs.file_and_hash.take_kept_name.Goals as goal

pub returns-in_err-name : goal.returns-in_err-name
returns-in_err-name g c =
    tried-refused (λ b. b) kept_name.spells kept_name.fault _ _ _ _ c.from_residual.ensures
    (not-there IsName (kept (octets_under ia5_string)) c.in_err-name.ensures)

pub returns-then-not-is_file_name : goal.returns-then-not-is_file_name
returns-then-not-is_file_name g c =
    let found = rw c.as_slice.ensures at c.is_file_name.ensures in
    malformed IsName (kept (octets_under ia5_string)) _ c.content.ensures c.in_ok-name.ensures
    (λ v h. not-so _ _ c.if-not-is_file_name.true found h.1)

pub returns : goal.returns
returns g c =
    let found = rw c.as_slice.ensures at c.is_file_name.ensures in
    such-read IsName (kept (octets_under ia5_string)) c.in_ok-name.name c.in_ok-name.ensures
    (refl, sym found ∙ c.if-not-is_file_name.false) (λ w h. h.0)

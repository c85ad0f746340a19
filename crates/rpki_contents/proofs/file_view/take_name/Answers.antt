use Rattle.std.proofs.Common.{◌∙◌, refl, sym}
use Rattle.rpki_der.specs.TagName.{ia5_string}
use Rattle.rpki_der.specs.Format.{octets_under}
use Rattle.rpki_der.proofs.ChoiceLaws.{such-read}
use Rattle.rpki_contents.specs.ListedFile.{IsName}
use Rattle.rpki_x509.proofs.SuchLaws.{not-there, malformed, not-so}
use Rattle.rpki_contents.proofs.file_view.take_name.Goals as goal

pub returns-in-Err : goal.returns-in-Err
returns-in-Err c = not-there IsName (octets_under ia5_string) c.in-Err.ensures

pub returns-then-not-is_file_name : goal.returns-then-not-is_file_name
returns-then-not-is_file_name c =
    malformed IsName (octets_under ia5_string) _ c.content.ensures c.in-Ok.ensures
    (λ v h. not-so _ _ c.if-not-is_file_name.true c.is_file_name.ensures h.1)

pub returns : goal.returns
returns c =
    such-read IsName (octets_under ia5_string) c.in-Ok.name.now c.in-Ok.ensures
    (refl, sym c.is_file_name.ensures ∙ c.if-not-is_file_name.false) (λ w h. h.0)

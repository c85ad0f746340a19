use Rattle.std.proofs.Common.{rules}
use Rattle.rpki_der.proofs.FormatLaws.{takes-around-one}
use Rattle.rpki_crl.specs.Crl.{extensions_of, extensions_tag, known_extensions}
use Rattle.rpki_crl.proofs.crl_extensions.CrlExtensions.take_from.Goals as goal

pub returns : goal.returns
returns g c =
    takes-around-one extensions_of extensions_tag known_extensions _ (λ b a x h. search rules) _ _ _
    (rw c.new.ensures at c.in_constructed_with.ensures)

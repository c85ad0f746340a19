use Rattle.std.proofs.Common.{Some}
use Rattle.std.specs.Prelude.{List, ℕ}
use Rattle.std.specs.Option.{option_copied}
use Rattle.rpki_cert.specs.GeneralName.{SpellsText}
use Rattle.rpki_cert.specs.Access.{SpellsUri}
use Rattle.rpki_cert.proofs.AccessLaws.{accepts-through, text-refused, uri-refused}
use Rattle.rpki_x509.proofs.TriedLaws.{tried-gives}
use Rattle.rpki_cert.proofs.extension.access_view.take_uri.Goals as goal

pub returns-in_err-text-clause-gives : goal.returns-in_err-text-clause-gives
returns-in_err-text-clause-gives c =
    tried-gives option_copied SpellsUri _ _ _ _ c.from_residual.ensures
    (uri-refused _ (text-refused _ _ c.in_err-text.field-0.0 c.in_err-text.ensures))

pub returns-clause-gives : goal.returns-clause-gives
returns-clause-gives c = accepts-through (λ (text : List ℕ). Some text) SpellsText _ _ _ c.in_ok-text.ensures

use Rattle.std.proofs.Common.{refl, inr}
use Rattle.rpki_c.proofs.TextLaws.{hex-IsUtf8}
use Rattle.rpki_c.proofs.identifier_texts.rpki_key_identifier_of_hex.Goals as goal

pub returns-in_default : goal.returns-in_default
returns-in_default c = inr (refl, (λ k h. c.in_default.ensures.cases.0 (hex-IsUtf8 k c.args.text.now h)), refl)

use Rattle.rpki_fields.specs.Object.IsNoObjectWith.{OtherContent}
use Rattle.rpki_fields.proofs.object.contact.Goals as goal

pub returns-in-Err-check_card : goal.returns-in-Err-check_card
returns-in-Err-check_card c = OtherContent c.in-Ok.object c.in-Ok.ensures c.in-Err-check_card.ensures

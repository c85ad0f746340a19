use Rattle.rpki_fields.specs.Object.IsNoObjectWith.{OtherContent}
use Rattle.rpki_fields.proofs.object.anchor_keys.Goals as goal

pub returns-in-Err-check_anchor_keys : goal.returns-in-Err-check_anchor_keys
returns-in-Err-check_anchor_keys c = OtherContent c.in-Ok.object c.in-Ok.ensures c.in-Err-check_anchor_keys.ensures

use Rattle.std.proofs.Common.{◌∙◌, refl}
use Rattle.rpki_base64.proofs.Base64Laws.{xml-bytes-text, xml-bytes-other}
use Rattle.rpki_c.proofs.base_64.store_short_bytes.Goals as goal

pub returns-in-Ok : goal.returns-in-Ok
returns-in-Ok c = rw (xml-bytes-text c.args.text.now c.in-Ok.ensures.cases.1) c.store_short_xml.ensures

pub returns-in-Err : goal.returns-in-Err
returns-in-Err c =
    rw (xml-bytes-other c.args.text.now c.in-Err.ensures.cases.0 c.valid_up_to.result
    (c.valid_up_to.ensures ∙ c.in-Err.ensures.valid_len)) (refl, refl, record { buffer = refl; size = refl })

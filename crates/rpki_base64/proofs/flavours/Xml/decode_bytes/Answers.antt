use Rattle.std.proofs.Common.{◌≡◌, true, sym, ap, ◌∙◌}
use Rattle.std.specs.Str.{is_utf8}
use Rattle.std.proofs.lemmas.Str.{is_utf8-from_IsUtf8}
use Rattle.rpki_base64.specs.Base64Text.{xml_decode_of}
use Rattle.rpki_base64.proofs.Base64Laws.{xml-bytes-text, xml-bytes-other}
use Rattle.rpki_base64.proofs.flavours.Xml.decode_bytes.Goals as goal

pub returns-in-Ok-clause-ok : goal.returns-in-Ok-clause-ok
returns-in-Ok-clause-ok c =
    rw (xml-bytes-text c.args.bytes.now c.in-Ok.ensures.cases.1 ∙ ap xml_decode_of (sym c.in-Ok.ensures.cases.0))
    c.decode.ensures.ok

pub returns-in-Ok-clause-err : goal.returns-in-Ok-clause-err
returns-in-Ok-clause-err c =
    rw (xml-bytes-text c.args.bytes.now c.in-Ok.ensures.cases.1 ∙ ap xml_decode_of (sym c.in-Ok.ensures.cases.0))
    c.decode.ensures.err

pub returns-in-Err-clause-err : goal.returns-in-Err-clause-err
returns-in-Err-clause-err c =
    xml-bytes-other c.args.bytes.now c.in-Err.ensures.cases.0 c.valid_up_to-offset.result
    (c.valid_up_to-offset.ensures ∙ c.in-Err.ensures.valid_len)

pub returns-in-Ok-clause-no_text : goal.returns-in-Ok-clause-no_text
returns-in-Ok-clause-no_text c h =
    let yes : is_utf8 c.args.bytes.now ≡ true = is_utf8-from_IsUtf8 _ c.in-Ok.ensures.cases.1 in cc

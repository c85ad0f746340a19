use Rattle.std.proofs.Common.{◌<◌, ◌∙◌, map, length, sym, arith}
use Rattle.std.proofs.lemmas.List.{length-map}
use Rattle.rpki_locator.specs.Locator.{uri_text}
use Rattle.rpki_issue.specs.Locators.{folded, info_digits}
use Rattle.rpki_issue.proofs.LocatorLaws.{read-back, whole-text}
use Rattle.rpki_issue.proofs.locator_written.write_locator.Goals as goal

pub returns-clause-ok : goal.returns-clause-ok
returns-clause-ok c =
    whole-text (map uri_text c.args.uris.now) (folded (info_digits c.args.key.now)) c.in_ok-text.text.items
    c.put_line.new.text.items c.put_key_text.new.text.items c.in_ok-text.ensures.ok c.in_ok-put_line.ensures
    c.in_ok-put_key_text.ensures.ok

pub returns-clause-read_back : goal.returns-clause-read_back
returns-clause-read_back c =
    let uris = map uri_text c.args.uris.now in
    let octets = whole-text uris (folded (info_digits c.args.key.now)) c.in_ok-text.text.items
    c.put_line.new.text.items c.put_key_text.new.text.items c.in_ok-text.ensures.ok c.in_ok-put_line.ensures
    c.in_ok-put_key_text.ensures.ok in
    let some : 0 < length uris = omega (arith, c.in_ok-text.ensures.some, length-map c.args.uris.now uri_text) in
    read-back uris c.args.key.now c.put_key_text.new.text.items some
    (c.in_ok-text.ensures.all ∙ sym (length-map c.args.uris.now uri_text)) c.in_ok-put_key_text.ensures.read octets

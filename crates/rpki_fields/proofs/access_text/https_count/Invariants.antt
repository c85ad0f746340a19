use Rattle.std.proofs.Common.{◌≡◌, drop, map}
use Rattle.std.specs.List.{list_any}
use Rattle.rpki_cert.specs.AccessDescription.{description_of}
use Rattle.rpki_fields.specs.AccessText.{is_https_of}
use Rattle.rpki_fields.proofs.access_text.https_count.Given as goal

abbrev pub invariant-descriptions : goal.invariant-descriptions
invariant-descriptions l =
    list_any (is_https_of l.method.0.now) (map description_of l.all)
    ≡ list_any (is_https_of l.method.0.now) (map description_of (drop l.description-index l.all))

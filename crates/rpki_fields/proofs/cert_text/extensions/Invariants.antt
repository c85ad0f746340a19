use Rattle.std.proofs.Common.{◌≡◌, take, map}
use Rattle.rpki_fields.specs.CertText.{extension_field}
use Rattle.rpki_fields.proofs.cert_text.extensions.Given as goal

abbrev pub invariant-extensions : goal.invariant-extensions
invariant-extensions l = l.fields.items ≡ map extension_field (take l.extension-index l.all)

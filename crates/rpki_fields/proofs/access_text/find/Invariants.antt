use Rattle.std.proofs.Common.{◌≡◌, drop}
use Rattle.rpki_cert.specs.Cert.{find}
use Rattle.rpki_fields.proofs.access_text.find.Given as goal

abbrev pub invariant-extensions : goal.invariant-extensions
invariant-extensions l = find l.id.0.now l.all ≡ find l.id.0.now (drop l.extension-index l.all)

use Rattle.rpki.specs.ExtensionValue.{extension_parts}
use Rattle.rpki.proofs.ExtensionLaws.{written-read}
use Rattle.rpki.proofs.repository.x509.extension.encode_extension.Goals as goal

pub returns-clause-read_back : goal.returns-clause-read_back
returns-clause-read_back g c =
    written-read (extension_parts c.args.oid.0.now c.args.critical (g.V.Values.encoded c.args.content))

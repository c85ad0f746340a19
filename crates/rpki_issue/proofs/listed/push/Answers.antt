use Rattle.std.proofs.Common.{true, arith}
use Rattle.rpki_der.specs.Prelude.{sequence}
use Rattle.rpki_der.proofs.EncodeLaws.{tlv_at_most}
use Rattle.rpki.specs.Extension.{extension_contents}
use Rattle.rpki_issue.specs.RowNames.{identifier_of, is_critical}
use Rattle.rpki_issue.proofs.listed.push.Goals as goal

pub write_encoded-requires : goal.write_encoded-requires
write_encoded-requires g c =
    let row = c.args.row in
    let contents = extension_contents (identifier_of row) (is_critical row) (g.V.Values.encoded c.args.content) in
    let few = c.requires.all in
    let written = c.encode_extension-extension.ensures in (
      written.short.1 (c.requires.content, rw (c.identifier.ensures, c.critical.ensures) few),
      rw (written.octets, c.identifier.ensures, c.critical.ensures)
          (omega (arith, few, tlv_at_most sequence true contents)),
    )

use Rattle.std.proofs.Common.{◌∙◌, true, sym, arith}
use Rattle.std.proofs.lemmas.Bool.{false≢true}
use Rattle.rpki_der.specs.Prelude.{sequence}
use Rattle.rpki_der.proofs.EncodeLaws.{tlv_at_most}
use Rattle.rpki.specs.PublicKey.{key_contents}
use Rattle.rpki_issue.proofs.locator_written.put_key_text.Goals as goal

pub returns-then-not-fits-clause-err : goal.returns-then-not-fits-clause-err
returns-then-not-fits-clause-err c = λ short.
    let e = c.encode_ref.ensures in
    let contents = key_contents c.args.key.now in
    let fits = c.fits.ensures.1 (
      e.short.1 short,
      rw e.octets (omega (arith, short, tlv_at_most sequence true contents)),
    ) in
    false≢true (sym c.if-not-fits.true ∙ fits)

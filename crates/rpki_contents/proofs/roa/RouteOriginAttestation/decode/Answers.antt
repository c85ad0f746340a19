use Rattle.std.proofs.Common.{rules}
use Rattle.rpki_der.proofs.InsideLaws.{read-whole}
use Rattle.rpki_contents.specs.Roa.{fields_of, roa}
use Rattle.rpki_contents.proofs.roa.RouteOriginAttestation.decode.Goals as goal

pub returns : goal.returns
returns c =
    let format = roa c.args.strict in
    rw c.from_slice.ensures at
    (read-whole fields_of format.spells format.fault _ (λ b a x h. search rules) _ _ c.whole.ensures)

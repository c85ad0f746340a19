use Rattle.std.proofs.Common.{◌∙◌}
use Rattle.rpki_issue.proofs.ObjectLaws.{only-cert, no-cert}
use Rattle.rpki_issue.proofs.unsigned_object.read_certificate.Goals as goal

pub returns-in-Ok-decode-clause-ok : goal.returns-in-Ok-decode-clause-ok
returns-in-Ok-decode-clause-ok c =
    only-cert _ c.args.octets.now c.in-Ok-decode.cert (c.into_bytes.ensures ∙ c.in-Ok.ensures)
    c.in-Ok-decode.ensures.decodes

pub returns-else-is_out_of_memory-clause-err : goal.returns-else-is_out_of_memory-clause-err
returns-else-is_out_of_memory-clause-err c = λ x there.
    let wrong = c.in-Err-decode.wrong in
    no-cert _ c.args.octets.now wrong.error (c.into_bytes.ensures ∙ c.in-Ok.ensures)
    (λ e.
    let yes = c.is_out_of_memory.ensures.1 e in
    let none : ⊥ = cc in
    none)
    c.in-Err-decode.ensures.decodes.0 x there

use Rattle.std.proofs.lemmas.Result.{err_from_is_err_and}
use Rattle.rpkibasic.specs.Run.{SpellsRpki, IsRpkiFault}
use Rattle.rpkibasic.proofs.FaultLaws.{fault-of}
use Rattle.rpkibasic.proofs.answers.decoded.Goals as goal

pub returns : goal.returns
returns c = rw c.in_ok-octets.ensures.ok at c.in_ok-signed.ensures.decodes

pub returns-in_err-signed : goal.returns-in_err-signed
returns-in_err-signed c =
    let p = err_from_is_err_and c.from_residual-in_err-signed.result c.from_residual-in_err-signed.ensures.1 in
    let h = rw c.in_ok-octets.ensures.ok at c.in_err-signed.ensures.decodes in
    rw (p.1, p.2) (fault-of SpellsRpki IsRpkiFault ⊥ c.args.input.items c.in_err-signed.field-0.0 h)

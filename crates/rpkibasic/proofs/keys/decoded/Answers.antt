use Rattle.std.proofs.lemmas.Result.{err_from_is_err_and}
use Rattle.rpki.specs.PublicKey.{SpellsKey}
use Rattle.rpki.specs.KeyFault.{key}
use Rattle.rpkibasic.proofs.FaultLaws.{fault-of}
use Rattle.rpkibasic.proofs.keys.decoded.Goals as goal

pub returns : goal.returns
returns c = rw c.in_ok-octets.ensures.ok at c.in_ok-key.ensures

pub returns-in_err-key : goal.returns-in_err-key
returns-in_err-key c =
    let p = err_from_is_err_and c.from_residual-in_err-key.result c.from_residual-in_err-key.ensures.1 in
    let h = rw c.in_ok-octets.ensures.ok at c.in_err-key.ensures in
    rw (p.1, p.2) (fault-of SpellsKey key.fault ⊥ c.args.input.items c.in_err-key.field-0.0 h)

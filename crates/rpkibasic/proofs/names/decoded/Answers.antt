use Rattle.std.proofs.lemmas.Result.{err_from_is_err_and}
use Rattle.rpki_der.proofs.ComposedLaws.{all-read, more-left, not-read}
use Rattle.rpki.specs.Name.{SpellsNameOctets}
use Rattle.rpki.specs.NameFault.{IsNameFault}
use Rattle.rpkibasic.proofs.FaultLaws.{fault-of}
use Rattle.rpkibasic.proofs.names.decoded.Goals as goal

pub returns : goal.returns
returns c =
    let h = rw (c.new-rest.ensures, c.in_ok-octets.ensures.ok) at c.in_ok-name.ensures in
    all-read SpellsNameOctets c.args.input.items c.in_ok-name.name _ h c.in_ok-finish.ensures

pub returns-in_err-name : goal.returns-in_err-name
returns-in_err-name c =
    let h = rw (c.new-rest.ensures, c.in_ok-octets.ensures.ok) at c.in_err-name.ensures in
    let p = err_from_is_err_and c.from_residual-in_err-name.result c.from_residual-in_err-name.ensures.1 in
    rw (p.1, p.2)
    (fault-of SpellsNameOctets IsNameFault ⊥ c.args.input.items c.in_err-name.field-0.0
    (not-read SpellsNameOctets IsNameFault c.args.input.items _ c.in_err-name.field-0.0 h))

pub returns-in_err-finish : goal.returns-in_err-finish
returns-in_err-finish c =
    let h = rw (c.new-rest.ensures, c.in_ok-octets.ensures.ok) at c.in_ok-name.ensures in
    let p = err_from_is_err_and c.from_residual-in_err-finish.result c.from_residual-in_err-finish.ensures.1 in
    rw (p.1, p.2)
    (fault-of SpellsNameOctets IsNameFault ⊥ c.args.input.items c.in_err-finish.field-0.0
    (rw c.in_err-finish.ensures.0 (more-left SpellsNameOctets IsNameFault c.args.input.items c.in_ok-name.name _ h
    c.in_err-finish.ensures.1)))

use Rattle.std.proofs.Common.{sym, subst}
use Rattle.std.proofs.lemmas.Result.{err_from_is_err_and}
use Rattle.rpki_der.proofs.ComposedLaws.{all-read, more-left, not-read}
use Rattle.rpki_der.proofs.InsideLaws.{exactly, trailing-exactly}
use Rattle.rpki.specs.Name.{IsName, SpellsNameOctets}
use Rattle.rpki.specs.NameFault.{IsWalkedNameFault}
use Rattle.rpki.proofs.NameFaultLaws.{name-never}
use Rattle.rpki_c.proofs.names.read_name.Goals as goal

pub returns-in_err-name-clause-refused : goal.returns-in_err-name-clause-refused
returns-in_err-name-clause-refused c =
    let h = rw c.from_slice-cons.ensures at c.in_err-name.ensures in
    let p = err_from_is_err_and c.from_residual.result c.from_residual.ensures.1 in
    let e = c.in_err-name.field-0.0 in
    rw (p.1, p.2) (exactly SpellsNameOctets IsWalkedNameFault c.args.octets.now e
    (λ z. name-never c.args.octets.now (subst (IsWalkedNameFault c.args.octets.now) z h.kind))
    (not-read SpellsNameOctets IsWalkedNameFault c.args.octets.now _ e h))

pub returns-in_err-finish-clause-refused : goal.returns-in_err-finish-clause-refused
returns-in_err-finish-clause-refused c =
    let h = rw c.from_slice-cons.ensures at c.in_ok-name.ensures in
    let p = err_from_is_err_and c.from_residual-in_err-finish.result c.from_residual-in_err-finish.ensures.1 in
    rw (p.1, p.2) (rw c.in_err-finish.ensures.0 (trailing-exactly SpellsNameOctets IsWalkedNameFault c.args.octets.now
    (more-left SpellsNameOctets IsWalkedNameFault c.args.octets.now c.in_ok-name.name _ h
    c.in_err-finish.ensures.1)))

pub returns-clause-name : goal.returns-clause-name
returns-clause-name c =
    let h = rw c.from_slice-cons.ensures at c.in_ok-name.ensures in
    let n = (all-read SpellsNameOctets c.args.octets.now c.in_ok-name.name _ h c.in_ok-finish.ensures).0 in
    (sym n.same, subst IsName (sym n.same) n.named)

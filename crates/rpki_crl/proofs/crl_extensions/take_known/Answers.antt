use Rattle.std.proofs.Common.{refl}
use Rattle.rpki_der.proofs.TriedLaws.{tried-refused}
use Rattle.rpki_crl.specs.Crl.{extensions_of, extension_list, AreExtensions, AreOthers}
use Rattle.rpki_x509.proofs.StandingForLaws.{none-there, none-stands, one-stands}
use Rattle.rpki_crl.proofs.crl_extensions.take_known.Goals as goal

pub returns-in_err-all : goal.returns-in_err-all
returns-in_err-all g c =
    tried-refused _ _ _ _ _ _ _ c.from_residual.ensures
    (none-there AreExtensions extension_list.spells extension_list.fault AreOthers c.in_err-all.ensures)

pub returns-in-Some : goal.returns-in-Some
returns-in-Some g c =
    let some = rw c.deref.ensures.value at c.in-Some.ensures.some in
    let only = rw c.deref.ensures.value at c.in-Some.ensures.only in
    one-stands AreExtensions extension_list.spells extension_list.fault AreOthers (extensions_of c.in-Some.known)
    c.in_ok-all.ensures some only

pub returns : goal.returns
returns g c =
    let none = rw c.deref.ensures.value at c.in-None.ensures.none in
    none-stands AreExtensions extension_list.spells extension_list.fault AreOthers c.in_ok-all.ensures
    (rw c.content.ensures none) (none, rw c.content.ensures refl)

use Rattle.std.proofs.Common.{refl, inl, inr}
use Rattle.rpki_der.proofs.TriedLaws.{tried-refused}
use Rattle.rpki_x509.proofs.StandingForLaws.{none-there, none-stands, one-stands}
use Rattle.rpki_request.specs.Request.{asked_of, extension_list, AreAsked, AreOthers}
use Rattle.rpki_request.proofs.asked.take_asked.Goals as goal

pub returns-in_err-all : goal.returns-in_err-all
returns-in_err-all g c =
    tried-refused _ _ _ _ _ _ _ c.from_residual.ensures
    (none-there AreAsked extension_list.spells extension_list.fault AreOthers c.in_err-all.ensures)

pub returns-in-Ok-Some : goal.returns-in-Ok-Some
returns-in-Ok-Some g c =
    let stands = rw (c.deref.ensures.value, c.in-Ok-Some.field-0-is) at c.in-Ok-Some.ensures in
    one-stands AreAsked extension_list.spells extension_list.fault AreOthers (asked_of c.in-Ok-Some.asked)
    c.in_ok-all.ensures stands.0 stands.1

pub returns-in-Ok-None : goal.returns-in-Ok-None
returns-in-Ok-None g c =
    let none = rw (c.deref.ensures.value, c.in-Ok-None.field-0-is) at c.in-Ok-None.ensures in
    none-stands AreAsked extension_list.spells extension_list.fault AreOthers c.in_ok-all.ensures
    (rw c.content.ensures none) (inl (none, rw c.content.ensures refl))

pub returns : goal.returns
returns g c =
    none-stands AreAsked extension_list.spells extension_list.fault AreOthers c.in_ok-all.ensures tt (inr refl)
